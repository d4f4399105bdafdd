use Rattle.std.proofs.Common.{◌≡◌, ℕ, ◌<◌}
use Rattle.refinement.specs.Refining.{at}
use Rattle.refinement.specs.Joining.{Image}
use Rattle.refinement.proofs.quotient.quotient.Given as goal

-- the rows of the blocks whose least row is below i are written
abbrev pub invariant-loop-i : goal.invariant-loop-i
invariant-loop-i l = (j : ℕ) → j < l.i → at l.block j ≡ j → Image l.raw.columns l.raw.words.now l.table (at l.names) j
