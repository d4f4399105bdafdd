use Rattle.std.proofs.Common.{get_or}
use Rattle.machines.proofs.Expanding.{PartlyExpanded}
use Rattle.machines.proofs.expand.expand.Given as goal

abbrev pub invariant-loop-i : goal.invariant-loop-i
invariant-loop-i l = PartlyExpanded (λ b. get_or l.column b 0) l.i l.raw.words.now l.initial.table l.table
