use Rattle.std.proofs.Common.{◌≡◌, length, ap, ◌∙◌, sym, arith}
use Rattle.subsets.specs.Sets.{has, add_live, moved}
use Rattle.subsets.proofs.Moves.{moved_past, moved_more}
use Rattle.subsets.proofs.bits.moves.Goals as goal

pub loop-q-preserved : goal.loop-q-preserved
loop-q-preserved c =
    let v = c.loop-q.invariant in
    let s = c.in-Some.ensures.steps in (
      tt,
      tt,
      s.2 ∙ v.2,
      s.3 ∙ v.3,
      moved_more _ c.args.dead c.args.at _ _ _ _ _ _ _ _ _ v.2 v.4 (c.add_live.ensures ∙ ap (λ z. add_live c.loop-q.to z c.args.dead) c.cell.ensures.is) s.0 s.1,
    )

pub returns : goal.returns
returns c =
    let v = c.loop-q.invariant in
    let i = c.loop-q.q-iterator in
    let long : length c.clear.new.words ≡ length c.args.to.now = omega (arith, c.clear.auto.words) in
    v.4
    ∙ ap (λ z. moved c.args.table.words.now c.args.dead c.args.at c.args.from.now z i.at) long
    ∙ sym (moved_past c.args.table.words.now c.args.dead c.args.at c.args.from.now _ i.at c.args.table.rows (omega (arith, i.within, v.3))
    (λ s l h. ap (λ z. has z s) (sym v.2) ∙ c.in-None.ensures.steps.0 s l (omega (arith, v.3))))
