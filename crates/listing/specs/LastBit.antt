-- What a row of a list's table and a row of one more pattern's show together. Assumes nothing.
--   with_bit i a b           the number a with b at place i of 32
use Rattle.std.specs.Prelude.{ℕ, ◌*◌, ◌%◌, ◌^◌, bit_or}

abbrev pub with_bit : ℕ → ℕ → ℕ → ℕ
with_bit i a b = bit_or a ((b * 2 ^ i) % 2 ^ 32)
