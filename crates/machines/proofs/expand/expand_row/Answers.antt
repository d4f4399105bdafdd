use Rattle.std.proofs.Common.{◌+◌, get_or, arith, ap, length-set}
use Rattle.std.proofs.lemmas.List.{get_or-take}
use Rattle.machines.proofs.Expanding.{row_more}
use Rattle.machines.proofs.expand.expand_row.Goals as goal

pub bounds-raw-j : goal.bounds-raw-j
bounds-raw-j c = omega (arith, get_or-take 256 c.args.column.now c.loop-b.b 0 (omega arith), c.requires.within c.loop-b.b (omega arith))

pub loop-b-preserved : goal.loop-b-preserved
loop-b-preserved c = row_more (omega (arith, length-set c.args.row.now 0 (get_or c.args.raw.now 0 0)))
    (ap (λ j. get_or c.args.raw.now (1 + j) 0) (get_or-take 256 c.args.column.now c.loop-b.b 0 (omega arith))) c.loop-b.invariant
