use Rattle.std.proofs.Common.{◌≡◌, take, length, subst, arith, length-take}
use Rattle.refinement.specs.Refining.{at}
use Rattle.refinement.specs.Joining.{Numbering}
use Rattle.refinement.proofs.Quotients.{refined_front, joined}
use Rattle.refinement.proofs.quotient.quotient.Goals as goal

pub returns : goal.returns
returns c =
    let B = at (take c.rows.result c.args.block.now) in
    let N = at c.number-count.new.names in
    let long : length (take c.rows.result c.args.block.now) ≡ c.args.raw.rows = simp length-take (omega arith) in
    joined c.args.raw.columns c.args.raw.rows c.number-count.result c.args.raw.words.now c.loop-i.table B N
    c.args.raw.inside (refined_front _ c.rows.ensures c.requires.refined) (subst (λ z. Numbering z c.number-count.result B N) long c.number-count.ensures) (omega arith) (λ i l e. c.loop-i.invariant i (omega arith) e)
