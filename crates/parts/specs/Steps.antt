-- The step of the work at a pattern's top: from finished tables of its parts to its own. Assumes nothing.
--   Finished column p k t     the k rows of t are the classes of words that leave the same of p, by first words, and show which match
--   Distinguished, Distinguishes    a system was explored and its rows parted into blocks; or it has more than n keys
--   raw_area n w, block_area n w    where in the work memory the rows' table stands, and their blocks
--   StepDone, StepSays        the step at p's top tells at most n classes apart, and t is p's finished table; or it tells more apart
--   Turned k t u              the outputs of the first k rows are turned, 0 into 1 and all else into 0, and nothing else is
--   Roomy n len               room for a table of n rows and their blocks, for n keys of a row and a set of rows each, and for what finds them
use Rattle.std.specs.Prelude.{◌≡◌, ℕ, ◌+◌, ◌*◌, ◌/◌, ◌<◌, ◌≤◌, cond, List, length, take, drop, Some, None, Option, ◌==◌}
use Rattle.std.proofs.Math.Option.{some}
use Rattle.machines.specs.Words.{Word}
use Rattle.machines.specs.Classes.{Classes, nth}
use Rattle.machines.specs.Machines.{run}
use Rattle.machines.specs.Columns.{cell, shown, leads}
use Rattle.machines.specs.Inside.{Inside}
use Rattle.machines.specs.Minimal.{Minimal}
use Rattle.machines.specs.Systems.{Key, Explored}
use Rattle.exploration.specs.Exploring.{TooMany}
use Rattle.refinement.specs.Refining.{at, Refined}
use Rattle.patterns.specs.Patterns.{Pattern, matches}
use Rattle.patterns.specs.Residuals.{Of, SameResidual}
use Rattle.patterns.specs.Searching.{bit}
use Rattle.patterns.specs.Sizes.{Top}

pub record Finished (column : ℕ → ℕ) (p : Pattern) (k : ℕ) (t : List ℕ) : Type 0 where
  pub minimal : Minimal (λ w. bit (matches p w)) k (leads column t) (shown t)
  pub residuals : (firsts : List Word) × Classes (SameResidual (Of p)) firsts × (length firsts ≡ k)
      × ((i : ℕ) (u : Word) → nth firsts i ≡ some u → run (leads column t) 0 u ≡ i)

pub record Distinguished (next : Key → ℕ → Key) (s : Key) (shows : Key → ℕ) (column : ℕ → ℕ) (c n k : ℕ) (t block : List ℕ) : Type 0 where
  pub few : k ≤ n
  pub inside : Inside c k t
  pub key : ℕ → Key
  pub explored : Explored next s k key (leads column t)
  pub shows_keys : (i : ℕ) → i < k → shown t i ≡ shows (key i)
  pub refined : Refined c k t (at block)

abbrev pub Distinguishes : (Key → ℕ → Key) → Key → (Key → ℕ) → (ℕ → ℕ) → ℕ → ℕ → List ℕ → List ℕ → Option ℕ → Type 0
Distinguishes next s shows column c n t block None = TooMany next s n
Distinguishes next s shows column c n t block (Some k) = Distinguished next s shows column c n k t block

abbrev pub raw_area : ℕ → List ℕ → List ℕ
raw_area n w = take (257 * n) w

abbrev pub block_area : ℕ → List ℕ → List ℕ
block_area n w = take n (drop (257 * n) w)

pub record StepDone (column : ℕ → ℕ) (c : ℕ) (p : Pattern) (n k : ℕ) (t : List ℕ) : Type 0 where
  pub few : k ≤ n
  pub top : Top n p
  pub inside : Inside c k t
  pub finished : Finished column p k t

abbrev pub StepSays : (ℕ → ℕ) → ℕ → Pattern → ℕ → List ℕ → Option ℕ → Type 0
StepSays column c p n t None = Top n p → ⊥
StepSays column c p n t (Some k) = StepDone column c p n k t

pub record Turned (k : ℕ) (t u : List ℕ) : Type 0 where
  pub shows : (i : ℕ) → i < k → shown u i ≡ cond (shown t i == 0) 1 0
  pub on : (i j : ℕ) → j < 256 → cell u i j ≡ cell t i j

abbrev pub Roomy : ℕ → ℕ → Type 0
Roomy n len = 257 * n + (n + (n * (n / 32 + 2) + ((n / 32 + 2) + (4096 + n)))) ≤ len
