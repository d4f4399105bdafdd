-- Machines whose rows are numbered by first words, and the least machine of an output function. Assumes nothing.
--   code a w                   a word's number in shortlex order, where a is the number of what stands before it
--   Nerode f u v               f agrees on u and v, whatever is put behind both
--   Like, Told                 from two rows the outputs agree after every word; a word after which they don't
--   Gives f next output        begun at row 0, the machine gives f on every word
--   Closed k next              each of k rows leads to one of them
--   First next i w             w is the first word that leads from row 0 to row i
--   Numbered k next            k rows, each reached, in the order of their first words
--   Minimal f k next output    numbered, gives f, and any two rows are told apart by a word
use Rattle.std.specs.Prelude.{◌≡◌, ℕ, ◌+◌, ◌*◌, ◌<◌, ◌≤◌, [], ◌∷◌, ◌++◌, ◌≢◌}
use Rattle.machines.specs.Words.{Word, Bytes}
use Rattle.machines.specs.Machines.{run}

abbrev pub code : ℕ → Word → ℕ
code a [] = a
code a (b ∷ w) = code (256 * a + (1 + b)) w

abbrev pub Nerode : (Word → ℕ) → Word → Word → Type 0
Nerode f u v = (x : Word) → Bytes x → f (u ++ x) ≡ f (v ++ x)

abbrev pub Like : (ℕ → ℕ → ℕ) → (ℕ → ℕ) → ℕ → ℕ → Type 0
Like next output i j = (x : Word) → Bytes x → output (run next i x) ≡ output (run next j x)

abbrev pub Told : (ℕ → ℕ → ℕ) → (ℕ → ℕ) → ℕ → ℕ → Type 0
Told next output i j = (x : Word) × Bytes x × (output (run next i x) ≢ output (run next j x))

abbrev pub Gives : (Word → ℕ) → (ℕ → ℕ → ℕ) → (ℕ → ℕ) → Type 0
Gives f next output = (w : Word) → Bytes w → output (run next 0 w) ≡ f w

abbrev pub Closed : ℕ → (ℕ → ℕ → ℕ) → Type 0
Closed k next = (i b : ℕ) → i < k → b < 256 → next i b < k

pub record First (next : ℕ → ℕ → ℕ) (i : ℕ) (w : Word) : Type 0 where
  pub bytes : Bytes w
  pub comes : run next 0 w ≡ i
  pub least : (v : Word) → Bytes v → run next 0 v ≡ i → code 0 w ≤ code 0 v

pub record Numbered (k : ℕ) (next : ℕ → ℕ → ℕ) : Type 0 where
  pub some : 0 < k
  pub closed : Closed k next
  pub first : (i : ℕ) → i < k → (w : Word) × First next i w
  pub order : (i j : ℕ) (u v : Word) → i < j → j < k → First next i u → First next j v → code 0 u < code 0 v

pub record Minimal (f : Word → ℕ) (k : ℕ) (next : ℕ → ℕ → ℕ) (output : ℕ → ℕ) : Type 0 where
  pub numbered : Numbered k next
  pub gives : Gives f next output
  pub told : (i j : ℕ) → i < k → j < k → (i ≢ j) → Told next output i j
