-- A text that is read in pieces. Assumes nothing.
--   Pieces                       of any machine: however a text is cut, into empty pieces too, the pieces lead, one
--                                after the other, to the row of the whole, and show, joined, what the whole shows
--   Joins next output i j w o    a word w that led from row i to row j and showed o goes on from whatever was read before
use Rattle.std.specs.Prelude.{◌≡◌, ℕ, List, ◌++◌}
use Rattle.machines.specs.Words.{Word, joined}
use Rattle.machines.specs.Machines.{run, trace, runs, traces}

pub record Pieces : Type 0 where
  pub leads : (next : ℕ → ℕ → ℕ) (i : ℕ) (ws : List Word) → runs next i ws ≡ run next i (joined ws)
  pub shows : (next : ℕ → ℕ → ℕ) (output : ℕ → ℕ) (i : ℕ) (ws : List Word) → traces next output i ws ≡ trace next output i (joined ws)

pub record Joins (next : ℕ → ℕ → ℕ) (output : ℕ → ℕ) (i j : ℕ) (w : Word) (o : List ℕ) : Type 0 where
  pub leads : (h : ℕ) (u : Word) → run next h u ≡ i → run next h (u ++ w) ≡ j
  pub shows : (h : ℕ) (u : Word) → run next h u ≡ i → trace next output h (u ++ w) ≡ trace next output h u ++ o
