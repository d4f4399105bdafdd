-- The one place for products of two variables. Assumes nothing.
use Rattle.std.proofs.Common.{◌≡◌, ℕ, ◌+◌, ◌*◌, ◌<◌, ◌≤◌, suc-mul, add-one, arith}
use Rattle.std.proofs.lemmas.Nat.{mul-le}

pub next_row : (i n : ℕ) → (i + 1) * n ≡ i * n + n
next_row i n = rw (add-one, suc-mul)

pub row_within : (i k n : ℕ) → i < k → i * n + n ≤ k * n
row_within i k n h = omega (arith, mul-le (i + 1) n k n (omega arith) (omega arith), next_row i n)

pub row_one : (k n m : ℕ) → 0 < k → k * n ≤ m → 1 * n ≤ m
row_one k n m h l = omega (arith, mul-le 1 n k n h (omega arith))
