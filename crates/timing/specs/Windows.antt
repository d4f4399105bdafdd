-- The last letters that were read, of two, as a number below a size. Assumes nothing.
--   wrap m v     v, or v - m where v is m or more
--   upper m k    1 if k is in the upper half of m numbers
use Rattle.std.specs.Prelude.{ℕ, ◌-◌, ◌*◌, cond, nat_le, nat_lt}

abbrev pub wrap : ℕ → ℕ → ℕ
wrap m v = cond (nat_lt v m) v (v - m)

abbrev pub upper : ℕ → ℕ → ℕ
upper m k = cond (nat_le m (2 * k)) 1 0
