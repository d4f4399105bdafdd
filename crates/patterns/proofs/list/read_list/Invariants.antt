use Rattle.patterns.proofs.Extents.{Reading}
use Rattle.patterns.proofs.list.read_list.Given as goal

abbrev pub invariant-loop-count : goal.invariant-loop-count
invariant-loop-count l = Reading l.list l.at l.count
