use Rattle.refinement.specs.Refining.{at}
use Rattle.refinement.specs.Joining.{Put}
use Rattle.refinement.proofs.quotient.put_row.Given as goal

abbrev pub invariant-loop-a : goal.invariant-loop-a
invariant-loop-a l = Put l.raw.words.now l.initial.table l.table (at l.names) l.i l.a
