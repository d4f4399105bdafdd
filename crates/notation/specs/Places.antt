-- The line and the column behind the front of a text. Assumes nothing.
--   line_of front      1, and one more for each line end (byte 10)
--   column_of front    1, and one more for each byte behind the last line end
use Rattle.std.specs.Prelude.{ℕ, ◌+◌, cond, List, [], ◌∷◌, ◌==◌}

abbrev pub line_from : ℕ → List ℕ → ℕ
line_from k [] = k
line_from k (x ∷ xs) = line_from (cond (x == 10) (k + 1) k) xs

abbrev pub line_of : List ℕ → ℕ
line_of front = line_from 1 front

abbrev pub column_from : ℕ → List ℕ → ℕ
column_from k [] = k
column_from k (x ∷ xs) = column_from (cond (x == 10) 1 (k + 1)) xs

abbrev pub column_of : List ℕ → ℕ
column_of front = column_from 1 front
