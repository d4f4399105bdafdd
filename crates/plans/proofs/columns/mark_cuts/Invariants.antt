use Rattle.plans.specs.Dividing.{Marked}
use Rattle.plans.proofs.columns.mark_cuts.Given as goal

abbrev pub invariant-loop-at : goal.invariant-loop-at
invariant-loop-at l = Marked l.list l.cuts l.at
