-- One bit more behind a list's: the joined number is their sum. Assumes nothing.
use Rattle.std.proofs.Common.{◌≡◌, ℕ, ◌+◌, ◌*◌, ◌^◌, ◌<◌, bit_or, ap, ◌∙◌, mul_comm, arith}
use Rattle.std.proofs.lemmas.Nat.{shl_whole}
use Rattle.std.specs.Int.Bits.{or_shifted_r}
use Rattle.listing.specs.LastBit.{with_bit}

-- nothing is lost above, and nothing overlaps below
pub with_bit_sum : (i a b : ℕ) → i < 32 → a < 2 ^ i → b < 2 → with_bit i a b ≡ a + 2 ^ i * b
with_bit_sum i a b room small one = ap (bit_or a) (shl_whole b 1 i 32 one (omega arith)) ∙ or_shifted_r b i a small ∙ omega (arith, mul_comm b (2 ^ i))
