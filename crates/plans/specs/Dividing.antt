-- Bytes into columns, by the ranges of a list. Assumes nothing.
--   marks n cuts                  cuts with a mark at a range's first byte and at the byte behind its last
--   Marked s cuts n               of each range before place n of s, its first byte and the byte behind its last are marked in cuts
--   Divided cuts column least j n    the bytes below n are in the columns 0 to j: at each marked byte a new one begins
--   ColumnsOf s c column least    c columns that no range of s divides
use Rattle.std.specs.Prelude.{◌≡◌, ℕ, ◌+◌, ◌<◌, ◌≤◌, List, slice_index, slice_set}
use Rattle.machines.specs.Columns.{Columns, Respects}
use Rattle.patterns.specs.declared.node.Node.{Node}
use Rattle.patterns.specs.declared.node.Node.TheVariants.{Nothing, Empty, Range, Sequence, Union, Intersection, Complement, Star}
use Rattle.patterns.specs.Promises.{NodeAt}

abbrev pub marks : Node → List ℕ → List ℕ
marks Nothing cuts = cuts
marks Empty cuts = cuts
marks (Range a b) cuts = slice_set (slice_set cuts a 1) (b + 1) 1
marks Sequence cuts = cuts
marks Union cuts = cuts
marks Intersection cuts = cuts
marks Complement cuts = cuts
marks Star cuts = cuts

pub record Marked (s cuts : List ℕ) (n : ℕ) : Type 0 where
  pub begins : (at : ℕ) → at < n → (a b : ℕ) → NodeAt s at (Range a b) → slice_index cuts a ≡ 1
  pub behind : (at : ℕ) → at < n → (a b : ℕ) → NodeAt s at (Range a b) → slice_index cuts (b + 1) ≡ 1

pub record Divided (cuts column least : List ℕ) (j n : ℕ) : Type 0 where
  pub few : j < n
  pub within : (b : ℕ) → b < n → slice_index column b ≤ j
  pub byte : (i : ℕ) → i ≤ j → slice_index least i < n
  pub back : (i : ℕ) → i ≤ j → slice_index column (slice_index least i) ≡ i
  pub low : (b : ℕ) → b < n → slice_index least (slice_index column b) ≤ b
  pub up : (i k : ℕ) → i < k → k ≤ j → slice_index least i < slice_index least k
  -- nothing is marked behind a column's least byte up to another of its bytes, nor in what there is of the last column
  pub whole : (x : ℕ) → x < n → (b : ℕ) → slice_index least (slice_index column x) < b → b ≤ x → slice_index cuts b ≡ 0
  pub last : (b : ℕ) → slice_index least j < b → b < n → slice_index cuts b ≡ 0

pub record ColumnsOf (s : List ℕ) (c : ℕ) (column least : List ℕ) : Type 0 where
  pub columns : Columns c (λ b. slice_index column b) (λ j. slice_index least j)
  pub respects : (at a b : ℕ) → NodeAt s at (Range a b) → Respects (λ b. slice_index column b) (λ j. slice_index least j) a b
