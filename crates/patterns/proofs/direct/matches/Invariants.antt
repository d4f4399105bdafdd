use Rattle.patterns.proofs.Ending.{Passing}
use Rattle.patterns.proofs.direct.matches.Given as goal

abbrev pub invariant-loop-before : goal.invariant-loop-before
invariant-loop-before l = Passing l.list l.at l._before
