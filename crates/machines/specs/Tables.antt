-- A machine as a table in memory: rows of 257 numbers, what the row shows and then for each byte the row to go to.
-- Assumes nothing.
--   SoundTable k t      t is k rows, and each row to go to is one of them
--   LeadsInside k t     the second half of that, as code reads it
--   or0                 a number that may be missing, 0 where it is
--   next t, output t    the table's machine
--   walk t, seen t      its run and its trace
use Rattle.std.specs.Prelude.{◌≡◌, ℕ, ◌+◌, ◌*◌, ◌<◌, List, length, slice_index}
use Rattle.std.proofs.Math.Option.{Option, some, none}
use Rattle.machines.specs.Words.{Word}
use Rattle.machines.specs.Classes.{nth}
use Rattle.machines.specs.Machines.{run, trace}

pub record SoundTable (k : ℕ) (t : List ℕ) : Type 0 where
  pub long : length t ≡ 257 * k
  pub goes : (i b j : ℕ) → i < k → b < 256 → nth t (257 * i + (1 + b)) ≡ some j → j < k

abbrev pub LeadsInside : ℕ → List ℕ → Type 0
LeadsInside k t = (i : ℕ) → i < k → (b : ℕ) → b < 256 → slice_index t (257 * i + (1 + b)) < k

abbrev pub or0 : Option ℕ → ℕ
or0 none = 0
or0 (some n) = n

abbrev pub next : List ℕ → ℕ → ℕ → ℕ
next t i b = or0 (nth t (257 * i + (1 + b)))

abbrev pub output : List ℕ → ℕ → ℕ
output t i = or0 (nth t (257 * i))

abbrev pub walk : List ℕ → ℕ → Word → ℕ
walk t i w = run (next t) i w

abbrev pub seen : List ℕ → ℕ → Word → List ℕ
seen t i w = trace (next t) (output t) i w
