-- Two tables over the same columns, read side by side. Assumes nothing.
--   joined j a b                 what two outputs give together, by a connective
--   pair_next column l r k b     where a byte leads from a pair of rows
--   pair_shows h l r k           what a pair of rows shows, where h joins two outputs
--   PairKey m n k                a row of m, then a row of n
use Rattle.std.specs.Prelude.{◌≡◌, ℕ, ◌<◌, cond, List, [], ◌∷◌, length, ◌==◌, slice_index, slice_index_or}
use Rattle.machines.specs.Columns.{shown, leads}
use Rattle.exploration.specs.declared.pairs.Connective.{Connective}
use Rattle.exploration.specs.declared.pairs.Connective.TheVariants.{Or, And}

abbrev pub joined : Connective → ℕ → ℕ → ℕ
joined Or a b = cond (a == 0) b a
joined And a b = cond (a == 0) 0 b

abbrev pub pair_next : (ℕ → ℕ) → List ℕ → List ℕ → List ℕ → ℕ → List ℕ
pair_next column l r k b = leads column l (slice_index k 0) b ∷ leads column r (slice_index k 1) b ∷ []

abbrev pub pair_shows : (ℕ → ℕ → ℕ) → List ℕ → List ℕ → List ℕ → ℕ
pair_shows h l r k = h (shown l (slice_index k 0)) (shown r (slice_index k 1))

pub record PairKey (m n : ℕ) (k : List ℕ) : Type 0 where
  pub two : length k ≡ 2
  pub left : slice_index_or k 0 0 < m
  pub right : slice_index_or k 1 0 < n
