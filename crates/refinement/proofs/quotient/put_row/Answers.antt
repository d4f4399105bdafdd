use Rattle.std.proofs.Common.{arith, rules}
use Rattle.refinement.proofs.RowCells.{at_place}
use Rattle.refinement.proofs.quotient.put_row.Goals as goal

pub bounds-names-to_row : goal.bounds-names-to_row
bounds-names-to_row c =
    let q = at_place c.args.raw.inside c.requires.i c.cells-to_row-items.ensures c.loop-a.a c.loop-a-test.true in
    omega (arith, q.1.1, c.requires.names)

pub loop-a-preserved : goal.loop-a-preserved
loop-a-preserved c =
    let q = at_place c.args.raw.inside c.requires.i c.cells-to_row-items.ensures c.loop-a.a c.loop-a-test.true in
    search (rules, q.1.0)
