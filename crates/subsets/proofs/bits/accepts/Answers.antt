use Rattle.std.proofs.Common.{sym, ap, ◌∙◌, arith}
use Rattle.subsets.specs.Sets.{has}
use Rattle.subsets.proofs.Moves.{accepts_none, accepts_more, accepts_to}
use Rattle.subsets.proofs.bits.accepts.Goals as goal

pub returns-then-shown-eq1 : goal.returns-then-shown-eq1
returns-then-shown-eq1 c =
    let v = c.loop-q.invariant in
    let F = c.in-Some.ensures.steps.0 in
    sym (accepts_to c.args.table.words.now c.args.words.now c.args.table.rows c.in-Some.q (omega (arith, F.few, v.3)) (ap (λ z. has z c.in-Some.q) (sym v.2) ∙ F.here) (omega (arith, c.shown.ensures)))

pub loop-q-preserved : goal.loop-q-preserved
loop-q-preserved c =
    let v = c.loop-q.invariant in
    let s = c.in-Some.ensures.steps in
    (tt, tt, s.2 ∙ v.2, s.3 ∙ v.3, accepts_more c.args.table.words.now c.args.words.now _ _ _ _ _ v.2 v.4 (λ e. c.if-shown-eq1.false (c.shown.ensures ∙ e)) s.0 s.1)

pub returns : goal.returns
returns c =
    let v = c.loop-q.invariant in
    let i = c.loop-q.q-iterator in
    sym (accepts_none c.args.table.words.now c.args.words.now c.args.table.rows i.at _ v.2 v.4 (omega (arith, i.within, v.3)) (λ s l h. c.in-None.ensures.steps.0 s l (omega (arith, v.3))))
