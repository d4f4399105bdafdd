-- What a word leaves of a pattern. Assumes nothing.
--   Language              a set of words
--   Of p                  the words that p matches
--   SameResidual L u v    u and v leave the same of L: whatever is put behind both, either both are in L or neither is
use Rattle.std.specs.Prelude.{◌≡◌, true, ◌↔◌, ◌++◌}
use Rattle.machines.specs.Words.{Word, Bytes}
use Rattle.patterns.specs.Patterns.{Pattern, matches}

abbrev pub Language : Type 1
Language = Word → Type 0

abbrev pub Of : Pattern → Language
Of p w = matches p w ≡ true

abbrev pub SameResidual : Language → Word → Word → Type 0
SameResidual L u v = (x : Word) → Bytes x → L (u ++ x) ↔ L (v ++ x)
