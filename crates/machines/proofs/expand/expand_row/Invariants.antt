use Rattle.std.proofs.Common.{get_or}
use Rattle.machines.proofs.Expanding.{RowPartly}
use Rattle.machines.proofs.expand.expand_row.Given as goal

abbrev pub invariant-loop-b : goal.invariant-loop-b
invariant-loop-b l = RowPartly (λ b. get_or l.column b 0) l.raw l.row l.b
