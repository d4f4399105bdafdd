-- Sets of numbers as words of 32 bits; d is a number that is never put in, if there is one. Assumes nothing.
--   has ws q, add ws q        whether q is in a set; the set with q
--   add_live ws q d           the set with q, unless q is d
--   Lacks ws q r              no number of the set from q up is below r
--   Next ws q n o             o is the least number of the set from q up and below n, if there is one
--   moved t d a ws m n        where column a of a table leads from the numbers below n of a set, as a set of m words
--   accepts t ws n            whether a row of the set, below n, shows 1
--   marks c d ws              row 0 too, if there is a mark
--   marked, followed, unread, follow_shows    one table read on and another from each place where the first shows 1:
--                             a key is a row of the first and the set of the second's rows
--   again, whole              a table read from the start and again from each place where it shows 1: a key is whether
--                             it shows 1, and the set of its rows
use Rattle.std.specs.Prelude.{◌≡◌, ℕ, zero, suc, ◌/◌, ◌%◌, ◌^◌, ◌<◌, ◌≤◌, Bool, true, false, cond, ◌&&◌, ◌||◌, ◌==◌, Option, Some, None, MatchOption, List, ◌∷◌, drop, replicate, bit_or, slice_index, slice_set}
use Rattle.std.specs.Int.{bit_at}
use Rattle.machines.specs.Columns.{cell, shown}

abbrev pub has : List ℕ → ℕ → Bool
has ws q = bit_at (slice_index ws (q / 32)) (q % 32) == 1

abbrev pub add : List ℕ → ℕ → List ℕ
add ws q = slice_set ws (q / 32) (bit_or (slice_index ws (q / 32)) (2 ^ (q % 32)))

abbrev pub add_live : List ℕ → ℕ → Option ℕ → List ℕ
add_live ws q None = add ws q
add_live ws q (Some d) = cond (q == d) ws (add ws q)

abbrev pub Lacks : List ℕ → ℕ → ℕ → Type 0
Lacks ws q r = (s : ℕ) → q ≤ s → s < r → has ws s ≡ false

pub record Found (ws : List ℕ) (q n r : ℕ) : Type 0 where
  pub from : q ≤ r
  pub none : Lacks ws q r
  pub few : r < n
  pub here : has ws r ≡ true

abbrev pub Next : List ℕ → ℕ → ℕ → Option ℕ → Type 0
Next ws q n o = MatchOption o (Lacks ws q n) (Found ws q n)

abbrev pub moved : List ℕ → Option ℕ → ℕ → List ℕ → ℕ → ℕ → List ℕ
moved t d a ws m zero = replicate m 0
moved t d a ws m (suc n) = cond (has ws n) (add_live (moved t d a ws m n) (cell t n a) d) (moved t d a ws m n)

abbrev pub accepts : List ℕ → List ℕ → ℕ → Bool
accepts t ws zero = false
accepts t ws (suc n) = (has ws n && shown t n == 1) || accepts t ws n

abbrev pub marks : Bool → Option ℕ → List ℕ → List ℕ
marks c d ws = cond c (add_live ws 0 d) ws

abbrev pub marked : List ℕ → ℕ → Bool
marked t q = shown t q == 1

abbrev pub followed : List ℕ → List ℕ → Option ℕ → ℕ → ℕ → List ℕ → ℕ → List ℕ
followed s t d m n k a = cell s (slice_index k 0) a ∷ marks (marked s (cell s (slice_index k 0) a)) d (moved t d a (drop 1 k) m n)

abbrev pub unread : List ℕ → Option ℕ → ℕ → List ℕ
unread s d m = 0 ∷ marks (marked s 0) d (replicate m 0)

abbrev pub follow_shows : List ℕ → ℕ → List ℕ → ℕ
follow_shows t n k = cond (accepts t (drop 1 k) n) 1 0

abbrev pub again : List ℕ → Option ℕ → ℕ → ℕ → List ℕ → ℕ → List ℕ
again t d m n k a = cond (accepts t (moved t d a (drop 1 k) m n) n) 1 0 ∷ marks (accepts t (moved t d a (drop 1 k) m n) n) d (moved t d a (drop 1 k) m n)

abbrev pub whole : Option ℕ → ℕ → List ℕ
whole d m = 1 ∷ add_live (replicate m 0) 0 d
