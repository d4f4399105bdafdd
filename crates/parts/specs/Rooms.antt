-- What the steps are lent. Assumes nothing.
--   Few n                rows can be numbered in words of 32 bits, also from 1 on: there are fewer than 2 ^ 32 - 1
--   Rooms n tables work  the lengths of lent memory: enough for n rows in each table, and for finding them
--   RoomsApart n tables raw block work    the same where the rows' table and their blocks have areas of their own
use Rattle.std.specs.Prelude.{ℕ, ◌+◌, ◌-◌, ◌*◌, ◌/◌, ◌^◌, ◌<◌, ◌≤◌}
use Rattle.parts.specs.Steps.{Roomy}

abbrev pub Few : ℕ → Type 0
Few n = n < 2 ^ 32 - 1

pub record Rooms (n t w : ℕ) : Type 0 where
  pub small : Few n
  pub tables : 257 * n ≤ t
  pub work : Roomy n w

pub record RoomsApart (n t r b w : ℕ) : Type 0 where
  pub small : Few n
  pub tables : 257 * n ≤ t
  pub raw : 257 * n ≤ r
  pub block : n ≤ b
  pub work : n * (n / 32 + 2) + ((n / 32 + 2) + (4096 + n)) ≤ w
