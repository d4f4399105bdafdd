-- A table over columns written with a cell for each byte. Assumes nothing.
--   RowExpanded column r r'        of single rows: r' shows what r shows, and each byte has the cell of its column in r
--   Expanded column k raw t t'     so are the first k rows of t', and behind them t' is as t was; and they are the least
--                                  machine of whatever function raw's rows are that of
use Rattle.std.specs.Prelude.{◌≡◌, ℕ, ◌+◌, ◌*◌, ◌<◌, List, take, drop, slice_index, slice_index_or}
use Rattle.machines.specs.Words.{Word}
use Rattle.machines.specs.Columns.{cell, shown, leads}
use Rattle.machines.specs.Minimal.{Minimal}

pub record RowExpanded (column : ℕ → ℕ) (r r' : List ℕ) : Type 0 where
  pub shows : slice_index_or r' 0 0 ≡ slice_index r 0
  pub on : (b : ℕ) → b < 256 → slice_index r' (1 + b) ≡ slice_index r (1 + column b)

pub record Expanded (column : ℕ → ℕ) (k : ℕ) (raw t t' : List ℕ) : Type 0 where
  pub shows : (i : ℕ) → i < k → shown t' i ≡ shown raw i
  pub on : (i : ℕ) → i < k → (b : ℕ) → b < 256 → cell t' i b ≡ cell raw i (column b)
  pub rest : drop (257 * k) t' ≡ drop (257 * k) t
  pub minimal : (f : Word → ℕ) → Minimal f k (leads column raw) (shown raw)
      → Minimal f k (leads (λ b. b) (take (257 * k) t')) (shown (take (257 * k) t'))
