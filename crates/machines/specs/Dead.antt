-- Rows from which nothing is shown any more. Assumes nothing.
--   Dead next output i    row i shows 0 and every byte stays in it: what code can look at
--   Live next output i    a word after which something else than 0 is shown
--   DeadRows              in a minimal machine each row is live, with its word, or dead; and at most one is dead
use Rattle.std.specs.Prelude.{◌≡◌, ℕ, ◌<◌, ◌⊎◌, ◌≢◌}
use Rattle.machines.specs.Words.{Word, Bytes}
use Rattle.machines.specs.Machines.{run}
use Rattle.machines.specs.Minimal.{Minimal}

pub record Dead (next : ℕ → ℕ → ℕ) (output : ℕ → ℕ) (i : ℕ) : Type 0 where
  pub silent : output i ≡ 0
  pub stays : (b : ℕ) → b < 256 → next i b ≡ i

abbrev pub Live : (ℕ → ℕ → ℕ) → (ℕ → ℕ) → ℕ → Type 0
Live next output i = (x : Word) × Bytes x × (output (run next i x) ≢ 0)

pub record DeadRows : Type 0 where
  pub either : (f : Word → ℕ) (k : ℕ) (next : ℕ → ℕ → ℕ) (output : ℕ → ℕ) → Minimal f k next output
      → (i : ℕ) → i < k → Live next output i ⊎ Dead next output i
  pub never_both : (next : ℕ → ℕ → ℕ) (output : ℕ → ℕ) (i : ℕ) → Live next output i → Dead next output i → ⊥
  pub one : (f : Word → ℕ) (k : ℕ) (next : ℕ → ℕ → ℕ) (output : ℕ → ℕ) → Minimal f k next output
      → (i j : ℕ) → i < k → j < k → Dead next output i → Dead next output j → i ≡ j
