-- The patterns that have no parts, each as a system of at most three states: nothing read, one byte read, too late. Assumes nothing.
--   leaf_pattern l              the pattern
--   leaf_next l i x             the state after one more byte
--   leaf_shows l i              1 where the word that was read matches
--   leaf_step l k x             the same of a key of one number
--   SoundLeaf l                 a range goes from a byte to one that isn't smaller
--   LeafColumns column least l the leaf doesn't tell bytes of one column apart
use Rattle.std.specs.Prelude.{ℕ, ◌<◌, ◌≤◌, cond, ◌&&◌, List, [], ◌∷◌, ◌==◌, nat_le, slice_index}
use Rattle.machines.specs.Columns.{Respects}
use Rattle.patterns.specs.Patterns.{Pattern, nothing, empty, range}
use Rattle.parts.specs.declared.leaf.Leaf.{Leaf}
use Rattle.parts.specs.declared.leaf.Leaf.TheVariants.{Nothing, Empty, Range}

abbrev pub leaf_pattern : Leaf → Pattern
leaf_pattern Nothing = nothing
leaf_pattern Empty = empty
leaf_pattern (Range a b) = range a b

abbrev pub leaf_next : Leaf → ℕ → ℕ → ℕ
leaf_next Nothing i x = 0
leaf_next Empty i x = 1
leaf_next (Range a b) i x = cond (i == 0) (cond (nat_le a x && nat_le x b) 1 2) 2

abbrev pub leaf_shows : Leaf → ℕ → ℕ
leaf_shows Nothing i = 0
leaf_shows Empty i = cond (i == 0) 1 0
leaf_shows (Range a b) i = cond (i == 1) 1 0

abbrev pub leaf_step : Leaf → List ℕ → ℕ → List ℕ
leaf_step l k x = leaf_next l (slice_index k 0) x ∷ []

abbrev pub SoundLeaf : Leaf → Type 0
SoundLeaf Nothing = Unit {0}
SoundLeaf Empty = Unit {0}
SoundLeaf (Range a b) = (a ≤ b) × (b < 256)

abbrev pub LeafColumns : (ℕ → ℕ) → (ℕ → ℕ) → Leaf → Type 0
LeafColumns column least Nothing = Unit {0}
LeafColumns column least Empty = Unit {0}
LeafColumns column least (Range a b) = Respects column least a b
