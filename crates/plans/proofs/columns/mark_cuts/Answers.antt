use Rattle.std.proofs.Common.{◌+◌, sym, ◌∙◌, subst, arith}
use Rattle.plans.specs.Dividing.{Marked}
use Rattle.plans.proofs.Dividing.{marked_past, marked_more}
use Rattle.plans.proofs.columns.mark_cuts.Goals as goal
use Rattle.plans.proofs.columns.mark_cuts.Goals.{in-Some, in_default}

pub loop-at-preserved : goal.loop-at-preserved
loop-at-preserved c = elim c.match-read_node.branch [
  | in-Some w ↦ subst (λ z. Marked c.args.list.now z (c.loop-at.at + 1)) (sym (w.cuts-is ∙ w.mark.ensures)) (marked_more c.loop-at.cuts (omega arith) c.loop-at.invariant w.in-Some.ensures)
  | in_default w ↦ subst (λ z. Marked c.args.list.now z (c.loop-at.at + 1)) (sym w.cuts-is) (marked_past c.loop-at.invariant w.in_default.ensures)
]
