use Rattle.std.proofs.Common.{◌∙◌, arith}
use Rattle.machines.proofs.Cells.{row_long}
use Rattle.machines.proofs.Expanding.{expanded_more, expanded_all}
use Rattle.machines.proofs.expand.expand.Goals as goal

pub loop-i-preserved : goal.loop-i-preserved
loop-i-preserved c = expanded_more c.expand_row.new.row c.row.ensures.words (λ b l. omega (arith, c.requires.within b l)) (omega arith)
    (c.expand_row.auto.row ∙ row_long c.loop-i.i c.loop-i.table (omega arith)) c.expand_row.ensures c.loop-i.invariant

pub returns : goal.returns
returns c = expanded_all (omega arith) c.loop-i.invariant
