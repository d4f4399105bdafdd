-- How many tables working out a pattern needs. Assumes nothing.
use Rattle.std.proofs.Common.{◌≡◌, ℕ, ◌+◌, ◌^◌, ◌<◌, ◌≤◌, cond, ltb, List, length, sym, subst, ⊎_elim, arith, length-append, pow_mono, pow-add}
use Rattle.std.proofs.lemmas.Bool.{cond_both, cases_lt, ltb-true, ltb-false}
use Rattle.patterns.specs.Patterns.{Pattern, nothing, empty, range, seq, union, inter, compl, star}
use Rattle.patterns.specs.Lists.{write}
use Rattle.plans.specs.Strahler.{higher, strahler, TwelveTables}

-- what holds of the larger of two different numbers, and of one more than two equal ones
by_higher : (P : ℕ → Type 0) (a b : ℕ) → (a < b → P b) → (b < a → P a) → (a ≡ b → P (a + 1)) → P (higher a b)
by_higher P a b less more same =
    cond_both (ltb a b) b (cond (ltb b a) a (a + 1)) P (λ e. less (ltb-true a b e))
    (λ e. cond_both (ltb b a) a (a + 1) P (λ d. more (ltb-true b a d)) (λ d. same (omega (arith, ltb-false a b e, ltb-false b a d))))

pub higher_left : (a b : ℕ) → a ≤ higher a b
higher_left a b = by_higher (λ n. a ≤ n) a b (λ l. omega arith) (λ l. omega arith) (λ e. omega arith)

pub higher_right : (a b : ℕ) → b ≤ higher a b
higher_right a b = by_higher (λ n. b ≤ n) a b (λ l. omega arith) (λ l. omega arith) (λ e. omega arith)

pub higher_first : (a b : ℕ) → b ≤ a → b + 1 ≤ higher a b
higher_first a b h = by_higher (λ n. b + 1 ≤ n) a b (λ l. omega arith) (λ l. omega arith) (λ e. omega arith)

pub higher_second : (a b : ℕ) → a < b → a + 1 ≤ higher a b
higher_second a b h = by_higher (λ n. a + 1 ≤ n) a b (λ l. omega arith) (λ l. omega arith) (λ e. omega arith)

pub strahler_some : (p : Pattern) → 1 ≤ strahler p
strahler_some nothing = omega arith
strahler_some empty = omega arith
strahler_some (range a b) = omega arith
strahler_some (seq p q) = omega (arith, strahler_some p, higher_left (strahler p) (strahler q))
strahler_some (union p q) = omega (arith, strahler_some p, higher_left (strahler p) (strahler q))
strahler_some (inter p q) = omega (arith, strahler_some p, higher_left (strahler p) (strahler q))
strahler_some (compl p) = strahler_some p
strahler_some (star p) = strahler_some p

-- 2 to the power of the tables is at most one more than the bytes
two_bytes : (a b : ℕ) (x y : List ℕ) (n : ℕ) → 2 ^ a ≤ length x + 1 → 2 ^ b ≤ length y + 1 → n ≡ length x + length y → 2 ^ higher a b ≤ n + 1 + 1
two_bytes a b x y n h k e = by_higher (λ m. 2 ^ m ≤ n + 1 + 1) a b (λ l. omega arith) (λ l. omega arith)
    (λ d. omega (arith, pow-add 2 a 1, subst (λ m. 2 ^ m ≤ length y + 1) (sym d) k))

pub strahler_bytes : (p : Pattern) → 2 ^ strahler p ≤ length (write p) + 1
strahler_bytes nothing = omega arith
strahler_bytes empty = omega arith
strahler_bytes (range a b) = omega arith
strahler_bytes (seq p q) = omega (arith, two_bytes (strahler p) (strahler q) (write p) (write q) _ (strahler_bytes p) (strahler_bytes q) (length-append (write p) (write q)))
strahler_bytes (union p q) = omega (arith, two_bytes (strahler p) (strahler q) (write p) (write q) _ (strahler_bytes p) (strahler_bytes q) (length-append (write p) (write q)))
strahler_bytes (inter p q) = omega (arith, two_bytes (strahler p) (strahler q) (write p) (write q) _ (strahler_bytes p) (strahler_bytes q) (length-append (write p) (write q)))
strahler_bytes (compl p) = omega (arith, strahler_bytes p)
strahler_bytes (star p) = omega (arith, strahler_bytes p)

pub twelve_tables : TwelveTables
twelve_tables p h = ⊎_elim
    (λ (l : 12 < strahler p). absurd (omega (arith, strahler_bytes p, pow_mono {i = 13} {j = strahler p} (omega arith))))
    (λ (l : strahler p ≤ 12). l)
    (cases_lt 12 (strahler p))
