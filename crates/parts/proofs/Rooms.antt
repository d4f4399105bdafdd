-- A set of so many words has a bit for each row, and lent memory holds the parts' tables and the keys of each step. Assumes nothing.
use Rattle.std.proofs.Common.{ℕ, ◌+◌, ◌*◌, ◌/◌, ◌≤◌, List, length, drop, arith, length-drop}
use Rattle.std.proofs.lemmas.Nat.{mul-le}
use Rattle.machines.specs.Inside.{Inside}
use Rattle.parts.specs.Steps.{Roomy}

pub set_room : (n : ℕ) → n ≤ 32 * (n / 32 + 1)
set_room n = omega arith

-- in one slice, behind the rows' table and their blocks
pub room_width : (n w len : ℕ) → w ≤ n / 32 + 2 → Roomy n len → 257 * n + (n + (n * w + (w + (4096 + n)))) ≤ len
room_width n w len l h = omega (arith, mul-le n w n (n / 32 + 2) (omega arith) l)

-- in an area of its own
pub room_width_apart : (n w len : ℕ) → w ≤ n / 32 + 2 → n * (n / 32 + 2) + ((n / 32 + 2) + (4096 + n)) ≤ len → n * w + (w + (4096 + n)) ≤ len
room_width_apart n w len l h = omega (arith, mul-le n w n (n / 32 + 2) (omega arith) l)

pub part_within : {c k : ℕ} (at : ℕ) (t : List ℕ) → Inside c k (drop at t) → at ≤ length t
part_within at t I = omega (arith, I.some, I.long, length-drop at t)
