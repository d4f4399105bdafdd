-- The row of a table from which nothing is shown any more, by columns. Assumes nothing.
--   IsDead c t r       row r shows 0, and each of c columns leads back to it
--   DeadRow c k t d    d is the least dead one of k rows, or None if none is dead; nothing is shown from it on; and if the
--                      machine is minimal, d alone is dead, and from each other row on something is shown
use Rattle.std.specs.Prelude.{◌≡◌, ℕ, ◌<◌, ◌≤◌, List, Some, Option, IsSomeAnd, ◌≢◌}
use Rattle.machines.specs.Words.{Word, Bytes}
use Rattle.machines.specs.Machines.{run}
use Rattle.machines.specs.Columns.{Columns, cell, shown, leads}
use Rattle.machines.specs.Minimal.{Minimal}
use Rattle.machines.specs.Dead.{Live}

pub record IsDead (c : ℕ) (t : List ℕ) (r : ℕ) : Type 0 where
  pub shows : shown t r ≡ 0
  pub stays : (a : ℕ) → a < c → cell t r a ≡ r

pub record DeadRow (c k : ℕ) (t : List ℕ) (d : Option ℕ) : Type 0 where
  pub few : (i : ℕ) → d ≡ Some i → i < k
  pub here : (i : ℕ) → d ≡ Some i → IsDead c t i
  pub least : (r : ℕ) → r < k → IsDead c t r → IsSomeAnd d (λ i. i ≤ r)
  pub still : (column least : ℕ → ℕ) → Columns c column least → (i : ℕ) → d ≡ Some i → (x : Word) → Bytes x → shown t (run (leads column t) i x) ≡ 0
  pub only : (column least : ℕ → ℕ) → Columns c column least → (f : Word → ℕ) → Minimal f k (leads column t) (shown t) → (r : ℕ) → r < k → IsDead c t r → d ≡ Some r
  pub live : (column least : ℕ → ℕ) → Columns c column least → (f : Word → ℕ) → Minimal f k (leads column t) (shown t) → (r : ℕ) → r < k → (d ≢ Some r) → Live (leads column t) (shown t) r
