-- The bits of a list: which texts they tell apart, and one pattern more. Assumes nothing.
use Rattle.std.proofs.Common.{◌≡◌, ℕ, suc, ◌+◌, ◌*◌, ◌^◌, ◌<◌, Bool, true, false, ◌↔◌, List, [], ◌∷◌, ◌++◌, length, sym, refl, ap, ◌∙◌, mul_assoc, pow-suc, arith}
use Rattle.machines.specs.Words.{Word}
use Rattle.machines.specs.Minimal.{Nerode}
use Rattle.patterns.specs.Patterns.{Pattern, matches}
use Rattle.patterns.specs.Residuals.{Of, SameResidual}
use Rattle.patterns.specs.Searching.{anywhere, bit, ends, SameSearch}

both_true : (x y : Bool) → (x ≡ true) ↔ (y ≡ true) → x ≡ y
both_true true y (a, b) = sym (a refl)
both_true false true (a, b) = b refl
both_true false false e = refl

bit_one : (x y : Bool) → bit x ≡ bit y → x ≡ y
bit_one true true e = refl
bit_one false false e = refl
bit_one true false e = absurd (omega arith)
bit_one false true e = absurd (omega arith)

pub bit_small : (x : Bool) → bit x < 2
bit_small true = omega arith
bit_small false = omega arith

-- what a text leaves of a pattern is what the bit of the pattern tells apart
pub residual_nerode : (p : Pattern) (u v : Word) → SameResidual (Of p) u v ↔ Nerode (λ w. bit (matches p w)) u v
residual_nerode p u v = (
  λ e x ok. ap bit (both_true (matches p (u ++ x)) (matches p (v ++ x)) (e x ok)),
  λ e x ok. let same = bit_one (matches p (u ++ x)) (matches p (v ++ x)) (e x ok) in (λ m. sym same ∙ m, λ m. same ∙ m),
)

-- the lowest bit and the others
bit_low : (a b : Bool) (x y : ℕ) → bit a + 2 * x ≡ bit b + 2 * y → (bit a ≡ bit b) × (x ≡ y)
bit_low true true x y e = (refl, omega arith)
bit_low false false x y e = (refl, omega arith)
bit_low true false x y e = absurd (omega arith)
bit_low false true x y e = absurd (omega arith)

module _ (p : Pattern) (ps : List Pattern) where
  -- each pattern has its bit
  ends_first : (u v : Word) → ends (p ∷ ps) u ≡ ends (p ∷ ps) v → (bit (matches (anywhere p) u) ≡ bit (matches (anywhere p) v)) × (ends ps u ≡ ends ps v)
  ends_first u v = bit_low (matches (anywhere p) u) (matches (anywhere p) v) (ends ps u) (ends ps v)

pub search_nerode : (ps : List Pattern) (u v : Word) → SameSearch ps u v → Nerode (ends ps) u v
search_nerode [] u v e x ok = refl
search_nerode (p ∷ ps) u v (a, e) x ok =
    ap (λ z. z + 2 * ends ps (u ++ x)) ((residual_nerode (anywhere p) u v).0 a x ok) ∙ ap (λ z. bit (matches (anywhere p) (v ++ x)) + 2 * z) (search_nerode ps u v e x ok)

pub nerode_search : (ps : List Pattern) (u v : Word) → Nerode (ends ps) u v → SameSearch ps u v
nerode_search [] u v h = tt
nerode_search (p ∷ ps) u v h = (
  (residual_nerode (anywhere p) u v).1 (λ x ok. (ends_first p ps (u ++ x) (v ++ x) (h x ok)).0),
  nerode_search ps u v (λ x ok. (ends_first p ps (u ++ x) (v ++ x) (h x ok)).1),
)

-- the last pattern's bit is the highest
pub ends_last : (ps : List Pattern) (p : Pattern) (u v : Word) → ends (ps ++ p ∷ []) u ≡ ends (ps ++ p ∷ []) v
    → (ends ps u ≡ ends ps v) × (bit (matches (anywhere p) u) ≡ bit (matches (anywhere p) v))
ends_last [] p u v e = (refl, (ends_first p [] u v e).0)
ends_last (q ∷ ps) p u v e =
    let a = ends_first q (ps ++ p ∷ []) u v e in
    let b = ends_last ps p u v a.1 in
    (ap (λ z. z + 2 * ends ps u) a.0 ∙ ap (λ z. bit (matches (anywhere q) v) + 2 * z) b.0, b.1)

doubled : (n : ℕ) → 2 ^ suc n ≡ 2 * 2 ^ n
doubled n = let e : 2 ^ suc n ≡ 2 ^ n * 2 = pow-suc 2 n in omega arith

pub ends_small : (ps : List Pattern) (w : Word) → ends ps w < 2 ^ length ps
ends_small [] w = omega arith
ends_small (p ∷ ps) w = omega (arith, ends_small ps w, doubled (length ps), bit_small (matches (anywhere p) w))

pub ends_more : (ps : List Pattern) (p : Pattern) (w : Word) → ends (ps ++ p ∷ []) w ≡ ends ps w + 2 ^ length ps * bit (matches (anywhere p) w)
ends_more [] p w = omega arith
ends_more (q ∷ ps) p w =
    let b = bit (matches (anywhere p) w) in
    let e : 2 ^ suc (length ps) * b ≡ 2 * (2 ^ length ps * b) = ap (λ z. z * b) (doubled (length ps)) ∙ mul_assoc 2 (2 ^ length ps) b in
    omega (arith, ends_more ps p w)
