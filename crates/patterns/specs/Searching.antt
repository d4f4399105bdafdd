-- Which patterns of a list end after a text. Assumes nothing.
--   anywhere p         anything, then p: it matches the texts that have a last part that p matches, the empty part included
--   ends ps w          the patterns that end after the text w, as bits, the list's first lowest
--   ends_along ps u w  those bits after each byte of w, where u was read before
--   SameSearch ps      two texts that a search for the list need not tell apart
--   FitSearch n ps     each 'anything, then the pattern' fits into n classes, and so does the list's table
use Rattle.std.specs.Prelude.{ℕ, ◌+◌, ◌*◌, ◌≤◌, Bool, true, false, List, [], ◌∷◌, ◌++◌, length}
use Rattle.machines.specs.Words.{Word}
use Rattle.machines.specs.Classes.{Classes}
use Rattle.patterns.specs.Patterns.{Pattern, seq, star, range, matches}
use Rattle.patterns.specs.Residuals.{Of, SameResidual}
use Rattle.patterns.specs.Sizes.{Fits}

abbrev pub anywhere : Pattern → Pattern
anywhere p = seq (star (range 0 255)) p

abbrev pub bit : Bool → ℕ
bit true = 1
bit false = 0

abbrev pub ends : List Pattern → Word → ℕ
ends [] w = 0
ends (p ∷ ps) w = bit (matches (anywhere p) w) + 2 * ends ps w

abbrev pub ends_along : List Pattern → Word → Word → List ℕ
ends_along ps u [] = []
ends_along ps u (b ∷ w) = ends ps (u ++ b ∷ []) ∷ ends_along ps (u ++ b ∷ []) w

abbrev pub SameSearch : List Pattern → Word → Word → Type 0
SameSearch [] u v = Unit {0}
SameSearch (p ∷ ps) u v = SameResidual (Of (anywhere p)) u v × SameSearch ps u v

abbrev pub AllFit : ℕ → List Pattern → Type 0
AllFit n [] = Unit {0}
AllFit n (p ∷ ps) = Fits n (anywhere p) × AllFit n ps

abbrev pub FitSearch : ℕ → List Pattern → Type 0
FitSearch n ps = AllFit n ps × ((firsts : List Word) × Classes (SameSearch ps) firsts × (length firsts ≤ n))
