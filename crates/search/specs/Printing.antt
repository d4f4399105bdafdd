-- What is printed of a search, and how its input is divided. Assumes nothing.
--   set_in b i             bit i of the 32 bits of b is set
--   places i k bits        the places, counted from k, at which bit i is set
--   Rule s at              a line '---' begins at this place of s: at its beginning or behind a line's end, three dashes, and then
--                          the line's end or the end of s
use Rattle.std.specs.Prelude.{◌≡◌, ℕ, ◌+◌, ◌-◌, ◌/◌, ◌%◌, ◌^◌, ◌<◌, ◌≤◌, Bool, cond, ◌&&◌, ◌⊎◌, List, [], ◌∷◌, length, Some, None, Option, ◌==◌, nat_lt, slice_index, slice_index_or}

abbrev pub set_in : ℕ → ℕ → Bool
set_in b i = nat_lt i 32 && b / 2 ^ i % 2 == 1

abbrev pub places : ℕ → ℕ → List ℕ → List ℕ
places i k [] = []
places i k (b ∷ bits) = cond (set_in b i) (k ∷ places i (k + 1) bits) (places i (k + 1) bits)

pub record Rule (s : List ℕ) (at : ℕ) : Type 0 where
  pub begins : (at ≡ 0) ⊎ (slice_index s (at - 1) ≡ 10)
  pub first : slice_index_or s at 0 ≡ 45
  pub second : slice_index_or s (at + 1) 0 ≡ 45
  pub third : slice_index_or s (at + 2) 0 ≡ 45
  pub within : at + 3 ≤ length s
  pub ends : (at + 3 ≡ length s) ⊎ (slice_index s (at + 3) ≡ 10)

abbrev pub RuleFound : List ℕ → Option ℕ → Type 0
RuleFound s (Some at) = Rule s at × ((k : ℕ) → k < at → Rule s k → ⊥)
RuleFound s None = (k : ℕ) → Rule s k → ⊥
