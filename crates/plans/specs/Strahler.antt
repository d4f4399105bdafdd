-- Where the patterns of a list end, and how many tables working them out needs. Assumes nothing.
--   higher a b               how many tables two parts need that need a and b: the one that needs more is worked out first, and
--                            its table is kept while the other is worked out
--   strahler p               how many tables working out p needs (its Strahler number)
--   ExtentOf s at stop n     the pattern at a place of s, if one stands there, ends at stop and needs n tables
--   ExtentAt s at r          r is the extent of the pattern at that place; or none stands there
--   Recorded x at r          r is what stands for a place in x; or x doesn't reach so far
--   Measured s ends tables from    so do all places from one on, by what stands in ends and tables
--   TwelveTables             12 suffice for a pattern of at most 4,096 bytes
use Rattle.std.specs.Prelude.{◌≡◌, ℕ, ◌+◌, ◌≤◌, ◌⊎◌, cond, List, length, nat_lt, slice_index, Some, None, Option}
use Rattle.patterns.specs.Patterns.{Pattern, nothing, empty, range, seq, union, inter, compl, star}
use Rattle.patterns.specs.Lists.{write}
use Rattle.patterns.specs.Promises.{PatternAt}
use Rattle.plans.specs.declared.extents.Extent.{Extent}
use Rattle.plans.specs.declared.extents.Extents.{Extents}

abbrev pub higher : ℕ → ℕ → ℕ
higher a b = cond (nat_lt a b) b (cond (nat_lt b a) a (a + 1))

abbrev pub strahler : Pattern → ℕ
strahler nothing = 1
strahler empty = 1
strahler (range a b) = 1
strahler (seq p q) = higher (strahler p) (strahler q)
strahler (union p q) = higher (strahler p) (strahler q)
strahler (inter p q) = higher (strahler p) (strahler q)
strahler (compl p) = strahler p
strahler (star p) = strahler p

pub record ExtentOf (s : List ℕ) (at stop n : ℕ) : Type 0 where
  pub stops : (p : Pattern) (end : ℕ) → PatternAt s at p end → stop ≡ end
  pub needs : (p : Pattern) (end : ℕ) → PatternAt s at p end → n ≡ strahler p

abbrev pub ExtentAt : List ℕ → ℕ → Option Extent → Type 0
ExtentAt s at (Some e) = ExtentOf s at e.end e.needed
ExtentAt s at None = (p : Pattern) (stop : ℕ) → PatternAt s at p stop → ⊥

abbrev pub Recorded : Extents → ℕ → Option Extent → Type 0
Recorded x at (Some e) = (e.end ≡ slice_index x.ends.now at) × (e.needed ≡ slice_index x.tables.now at)
Recorded x at None = (length x.ends.now ≤ at) ⊎ (length x.tables.now ≤ at)

pub record Measured (s ends tables : List ℕ) (from : ℕ) : Type 0 where
  pub stops : (at : ℕ) → from ≤ at → (p : Pattern) (stop : ℕ) → PatternAt s at p stop → slice_index ends at ≡ stop
  pub needs : (at : ℕ) → from ≤ at → (p : Pattern) (stop : ℕ) → PatternAt s at p stop → slice_index tables at ≡ strahler p

abbrev pub TwelveTables : Type 0
TwelveTables = (p : Pattern) → length (write p) ≤ 4096 → strahler p ≤ 12
