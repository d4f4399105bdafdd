use Rattle.refinement.specs.Refining.{at}
use Rattle.refinement.specs.Joining.{Numbering}
use Rattle.refinement.proofs.quotient.number.Given as goal

abbrev pub invariant-loop-i : goal.invariant-loop-i
invariant-loop-i l = Numbering l.i l.count (at l.block) (at l.names)
