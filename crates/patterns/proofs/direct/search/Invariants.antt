use Rattle.patterns.proofs.Ending.{Searching}
use Rattle.patterns.proofs.direct.search.Given as goal

abbrev pub invariant-loop-i : goal.invariant-loop-i
invariant-loop-i l = Searching l.list l.text l.bits-items l.i
