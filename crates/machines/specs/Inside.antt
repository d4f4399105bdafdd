-- A table on the way: rows at a stride of 257, of which the first columns are in use. Assumes nothing.
--   Inside c k t    t has k rows, one at least, and each leads from each of c columns to one of them
use Rattle.std.specs.Prelude.{ℕ, ◌*◌, ◌<◌, ◌≤◌, List, length}
use Rattle.machines.specs.Columns.{cell}

pub record Inside (c k : ℕ) (t : List ℕ) : Type 0 where
  pub few : c ≤ 256
  pub some : 0 < k
  pub long : 257 * k ≤ length t
  pub cells : (i : ℕ) → i < k → (j : ℕ) → j < c → cell t i j < k
