-- Columns: bytes that nothing tells apart share one, so that a table on the way needs a cell for each column only.
-- Assumes nothing.
--   Columns c column least    c columns, numbered from byte 0 up: the column of each byte, the least byte of each column
--   cell t i j                what stands in row i, column j of a table whose rows are 257 apart
--   shown t i                 what row i shows
--   leads column t            the machine of such a table: from a row and a byte the row to go to
--   Respects column least a b    the range from a to b doesn't tell a byte from the least one of its column
use Rattle.std.specs.Prelude.{◌≡◌, ℕ, ◌+◌, ◌*◌, ◌<◌, ◌≤◌, ◌&&◌, List, nat_le, slice_index}

pub record Columns (c : ℕ) (column least : ℕ → ℕ) : Type 0 where
  pub few : c ≤ 256
  pub within : (b : ℕ) → b < 256 → column b < c
  pub byte : (j : ℕ) → j < c → least j < 256
  pub back : (j : ℕ) → j < c → column (least j) ≡ j
  pub low : (b : ℕ) → b < 256 → least (column b) ≤ b
  pub up : (i j : ℕ) → i < j → j < c → least i < least j

abbrev pub cell : List ℕ → ℕ → ℕ → ℕ
cell t i j = slice_index t (257 * i + (1 + j))

abbrev pub shown : List ℕ → ℕ → ℕ
shown t i = slice_index t (257 * i)

abbrev pub leads : (ℕ → ℕ) → List ℕ → ℕ → ℕ → ℕ
leads column t i b = cell t i (column b)

abbrev pub Respects : (ℕ → ℕ) → (ℕ → ℕ) → ℕ → ℕ → Type 0
Respects column least a b = (x : ℕ) → x < 256 → (nat_le a x && nat_le x b) ≡ (nat_le a (least (column x)) && nat_le (least (column x)) b)
