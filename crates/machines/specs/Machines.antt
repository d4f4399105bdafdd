-- Machines as functions: from a row and a letter the next row, and what a row shows. Assumes nothing.
--   run next i w             the row that a word leads to from row i
--   trace next output i w    what is shown after each of its letters on the way
--   runs, traces             the same of words that are read one after the other, what they show joined
use Rattle.std.specs.Prelude.{ℕ, List, [], ◌∷◌, ◌++◌}
use Rattle.machines.specs.Words.{Word}

abbrev pub run : (ℕ → ℕ → ℕ) → ℕ → Word → ℕ
run next i [] = i
run next i (b ∷ w) = run next (next i b) w

abbrev pub trace : (ℕ → ℕ → ℕ) → (ℕ → ℕ) → ℕ → Word → List ℕ
trace next output i [] = []
trace next output i (b ∷ w) = output (next i b) ∷ trace next output (next i b) w

abbrev pub runs : (ℕ → ℕ → ℕ) → ℕ → List Word → ℕ
runs next i [] = i
runs next i (w ∷ ws) = runs next (run next i w) ws

abbrev pub traces : (ℕ → ℕ → ℕ) → (ℕ → ℕ) → ℕ → List Word → List ℕ
traces next output i [] = []
traces next output i (w ∷ ws) = trace next output i w ++ traces next output (run next i w) ws
