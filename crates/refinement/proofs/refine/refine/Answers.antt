use Rattle.std.proofs.Common.{◌≡◌, ◌<◌, sum, sym, ap, subst, ⊎_elim, arith}
use Rattle.std.proofs.lemmas.Slice.Eq.{slice_eq-Decides}
use Rattle.std.proofs.lemmas.Bool.Decides.{Decides-eqb}
use Rattle.refinement.specs.Refining.{at, Blocks}
use Rattle.refinement.proofs.Rounds.{Finer, finer_more, blocks_more, blocks_grow, refined, sum_small, sum_grows}
use Rattle.refinement.proofs.refine.refine.Goals as goal

pub loop-i-preserved : goal.loop-i-preserved
loop-i-preserved c = finer_more _ _ _ _ _ _ (omega arith) c.loop-i.invariant c.least_alike.ensures

pub rounds-smaller : goal.rounds-smaller
rounds-smaller c =
    let finer : Finer c.args.table.columns c.args.table.rows c.args.table.words.now (at c.rounds.block) (at c.loop-i.fresh) = λ i l. c.loop-i.invariant i (omega arith) in
    let more = blocks_more _ _ _ c.args.table.inside _ _ c.rounds.invariant finer in
    let small = sum_small c.args.table.rows c.loop-i.fresh (omega arith) more.low in
    let grows : sum c.rounds.block < sum c.loop-i.fresh = ⊎_elim
    (λ (e : c.rounds.block ≡ c.loop-i.fresh). let t = (slice_eq-Decides Decides-eqb _ _ _ c.eq.ensures).1 e in cc)
    (λ (h : sum c.rounds.block < sum c.loop-i.fresh). h)
    (sum_grows c.rounds.block c.loop-i.fresh (omega arith) (λ i l. blocks_grow _ _ _ c.args.table.inside _ _ c.rounds.invariant finer i (omega arith))) in
    omega (arith, ap sum c.copy_from_slice.ensures.after)

pub rounds-preserved : goal.rounds-preserved
rounds-preserved c =
    subst (λ s. Blocks c.args.table.columns c.args.table.rows c.args.table.words.now (at s)) (sym c.copy_from_slice.ensures.after)
    (blocks_more _ _ _ c.args.table.inside _ _ c.rounds.invariant (λ i l. c.loop-i.invariant i (omega arith)))

pub returns : goal.returns
returns c =
    let still : c.rounds.block ≡ c.loop-i.fresh = (slice_eq-Decides Decides-eqb _ _ _ c.eq.ensures).0 c.if-eq.true in
    refined _ _ _ c.args.table.inside _ c.rounds.invariant
    (subst (λ s. Finer c.args.table.columns c.args.table.rows c.args.table.words.now (at c.rounds.block) (at s)) (sym still) (λ i l. c.loop-i.invariant i (omega arith)))
