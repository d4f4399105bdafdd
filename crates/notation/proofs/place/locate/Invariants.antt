use Rattle.notation.proofs.Placing.{Counted}
use Rattle.notation.proofs.place.locate.Given as goal

abbrev pub invariant-loop-byte : goal.invariant-loop-byte
invariant-loop-byte l = Counted l.front l.byte-index l.line l.column
