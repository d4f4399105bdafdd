-- What a closed range from 0 gives, for the methods of iterators. Assumes nothing.
use Rattle.std.proofs.Common.{◌≡◌, ℕ, zero, suc, ◌≤◌, ◌<◌, ◌+◌, ◌-◌, Bool, true, false, Option, length, refl, subst, ap, ◌∙◌, arith}
use Rattle.std.specs.Bool.{MatchBool}
use Rattle.std.specs.Range.{range_inclusive_steps, range_inclusive_len, range_inclusive_left, range_inclusive_start, range_inclusive_end, range_inclusive_exhausted}
use Rattle.std.specs.Iterator.{AlwaysYields}
use Rattle.std.specs.List.{range_with_len, HoldsAt, AllWithin}
use Rattle.std.specs.declared.ops.RangeInclusive.{RangeInclusive}
use Rattle.std.proofs.lemmas.Iterator.{YieldsList}
use Rattle.std.proofs.lemmas.List.FromFn.{length-range_with_len, get_or-range_with_len}

abbrev pub steps : RangeInclusive ℕ → Option ℕ → RangeInclusive ℕ → Type 0
steps = range_inclusive_steps (λ a b. b - a) (λ a b. b ≡ a + 1)

abbrev left : RangeInclusive ℕ → ℕ
left = range_inclusive_left (λ a b. b - a)

goes_on : (n : ℕ) (s : RangeInclusive ℕ) → left s ≡ suc n → (b : Bool) → range_inclusive_exhausted s ≡ b → range_inclusive_exhausted s ≡ false
goes_on n s e false b = b
goes_on n s e true b = absurd (omega (arith, e, ap (range_inclusive_len (λ a b. b - a) (range_inclusive_start s) (range_inclusive_end s)) b))

from_start : (n a : ℕ) (s : RangeInclusive ℕ) → left s ≡ n → (range_inclusive_exhausted s ≡ false → range_inclusive_start s ≡ a) → AlwaysYields steps (λ x. x) s (range_with_len a n)
from_start zero a s e f = λ x j st. omega (arith, e, st.1.1)
from_start (suc n) a s e f =
    let b = f (goes_on n s e (range_inclusive_exhausted s) refl) in
    (λ j st. omega (arith, e, st.1.0), λ x j st. (st.1.0 ∙ b, from_start n (a + 1) j (omega (arith, e, st.1.1)) (λ k. st.1.2 k ∙ ap (λ i. i + 1) b)))

pub inclusive_yields : {n : ℕ} (s : RangeInclusive ℕ) → range_inclusive_start s ≡ 0 → range_inclusive_end s ≡ n → range_inclusive_exhausted s ≡ false → YieldsList steps (λ x. x) s (range_with_len 0 (n + 1))
inclusive_yields {n = n} s a b e = record {
  runs = from_start (n + 1) 0 s (ap (range_inclusive_len (λ a b. b - a) (range_inclusive_start s) (range_inclusive_end s)) e ∙ omega arith) (λ k. a);
}

-- what `any` says of the numbers of that list, said of those up to n
pub any_to : (n : ℕ) (Yes No : ℕ → Type 0) (r : Bool)
    → MatchBool r ((k : ℕ) × (k < length (range_with_len 0 (n + 1))) × HoldsAt Yes (range_with_len 0 (n + 1)) k) (AllWithin No (range_with_len 0 (n + 1)) 0 (length (range_with_len 0 (n + 1))))
    → MatchBool r ((k : ℕ) × (k ≤ n) × Yes k) ((k : ℕ) → k ≤ n → No k)
any_to n Yes No true (k, l, h) =
    let long = length-range_with_len 0 (n + 1) in
    (k, omega (arith, long), subst Yes (get_or-range_with_len 0 (n + 1) k 0 (omega (arith, long)) ∙ omega arith) (h 0))
any_to n Yes No false h = λ k l. subst No (get_or-range_with_len 0 (n + 1) k 0 (omega arith) ∙ omega arith) (h k 0 (omega arith) (omega (arith, length-range_with_len 0 (n + 1))))
