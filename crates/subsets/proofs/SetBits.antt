-- What is in a set of bits, in a set that a column leads to, and in two sets that are the same. Assumes nothing.
use Rattle.std.proofs.Common.{◌≡◌, ℕ, zero, suc, ◌+◌, ◌*◌, ◌/◌, ◌%◌, ◌^◌, ◌<◌, ◌≤◌, max, Option, Some, None, true, false, ◌&&◌, eqb, ◌⊎◌, List, length, get_or, set, replicate, sym, refl, ap, ◌∙◌, subst, inl, inr, ⊎_elim, arith}
use Rattle.std.specs.Int.{bit_at}
use Rattle.std.specs.Int.Bits.{bit_or}
use Rattle.std.proofs.lemmas.Nat.{pow_below, or_lt}
use Rattle.std.proofs.lemmas.Nat.Bits.{bit_at_or, bit_at-zero, bit_at-pow_same, bit_at-pow_other, same_from_bits_below}
use Rattle.std.proofs.lemmas.List.{get_or-set_same, get_or-set_other, get_or-replicate, get_or_past, length-set, length-replicate, ext_get_or}
use Rattle.std.proofs.lemmas.Bool.{cases_eq, cases_lt, cases_Bool, both_ways, eqb-true, eqb-false, eq-eqb, ne_eqb, cond-true, cond-false, cond_both, and_parts, or_cases}
use Rattle.machines.specs.Columns.{cell, shown}
use Rattle.subsets.specs.Sets.{has, add, add_live, moved, accepts}
use Rattle.subsets.proofs.Moves.{length_moved}

pub has_added : (ws : List ℕ) (q : ℕ) → q / 32 < length ws → has (add ws q) q ≡ true
has_added ws q h = eq-eqb (bit_at (get_or (add ws q) (q / 32) 0) (q % 32)) 1 (
    let w = get_or ws (q / 32) 0 in
    let e : max (bit_at w (q % 32)) (bit_at (2 ^ (q % 32)) (q % 32)) ≡ 1 = omega (arith, bit_at-pow_same (q % 32)) in
    ap (λ z. bit_at z (q % 32)) (get_or-set_same ws (q / 32) (bit_or w (2 ^ (q % 32))) 0 h) ∙ bit_at_or w (2 ^ (q % 32)) (q % 32) ∙ e)

pub has_other : (ws : List ℕ) (q r : ℕ) → q / 32 < length ws → (r ≡ q → ⊥) → has (add ws q) r ≡ has ws r
has_other ws q r h d = ⊎_elim
    (λ (e : r / 32 ≡ q / 32). ap (λ z. eqb z 1)
    (ap (λ z. bit_at (get_or (add ws q) z 0) (r % 32)) e ∙ ap (λ z. bit_at z (r % 32)) (get_or-set_same ws (q / 32) _ 0 h) ∙ bit_at_or _ _ (r % 32)
    ∙ ap (λ z. max (bit_at (get_or ws (q / 32) 0) (r % 32)) z) (bit_at-pow_other (q % 32) (r % 32) (omega arith)) ∙ none _ ∙ ap (λ z. bit_at (get_or ws z 0) (r % 32)) (sym e)))
    (λ (n : r / 32 ≡ q / 32 → ⊥). ap (λ z. eqb (bit_at z (r % 32)) 1) (get_or-set_other ws (q / 32) (r / 32) _ 0 n))
    (cases_eq (r / 32) (q / 32))
  where
    none : (x : ℕ) → max x 0 ≡ x
    none x = omega arith

-- the words of the empty set
none_word : (m i : ℕ) → ◌≡◌ {A = ℕ} (get_or (replicate m 0) i 0) 0
none_word m i = ⊎_elim (λ (h : i < m). get_or-replicate m i 0 0 h) (λ (h : m ≤ i). get_or_past (replicate m 0) i 0 (omega (arith, length-replicate {A = ℕ} m 0))) (cases_lt i m)

pub has_none : (m r : ℕ) → has (replicate m 0) r ≡ false
has_none m r = ap (λ z. eqb (bit_at z (r % 32)) 1) (none_word m (r / 32)) ∙ ap (λ z. eqb z 1) (bit_at-zero (r % 32))

-- a number put in unless it is d
module _ (ws : List ℕ) (q : ℕ) where
  cases_live : (d : Option ℕ) → ((Some q ≡ d → ⊥) × (add_live ws q d ≡ add ws q)) ⊎ ((Some q ≡ d) × (add_live ws q d ≡ ws))
  cases_live None = inl (λ e. absurd cc, refl)
  cases_live (Some d) = ⊎_elim
      (λ (e : q ≡ d). inr (ap Some e, cond-true (eqb q d) ws (add ws q) (eq-eqb q d e)))
      (λ (ne : q ≡ d → ⊥). inl (λ e. ne cc, cond-false (eqb q d) ws (add ws q) (ne_eqb q d ne)))
      (cases_eq q d)

module _ (ws : List ℕ) (q : ℕ) (d : Option ℕ) (fits : q / 32 < length ws) where
  pub live_in : (r : ℕ) → has (add_live ws q d) r ≡ true → ((r ≡ q) × (Some q ≡ d → ⊥)) ⊎ (has ws r ≡ true)
  live_in r h = ⊎_elim
      (λ l. ⊎_elim (λ (s : r ≡ q). inl (s, l.0)) (λ (n : r ≡ q → ⊥). inr (sym (has_other ws q r fits n) ∙ ap (λ z. has z r) (sym l.1) ∙ h)) (cases_eq r q))
      (λ l. inr (ap (λ z. has z r) (sym l.1) ∙ h))
      (cases_live ws q d)

  pub live_old : (r : ℕ) → has ws r ≡ true → has (add_live ws q d) r ≡ true
  live_old r h = ⊎_elim
      (λ l. ap (λ z. has z r) l.1 ∙ ⊎_elim (λ (s : r ≡ q). ap (has (add ws q)) s ∙ has_added ws q fits) (λ (n : r ≡ q → ⊥). has_other ws q r fits n ∙ h) (cases_eq r q))
      (λ l. ap (λ z. has z r) l.1 ∙ h)
      (cases_live ws q d)

  pub live_new : (Some q ≡ d → ⊥) → has (add_live ws q d) q ≡ true
  live_new ne = ⊎_elim (λ l. ap (λ z. has z q) l.1 ∙ has_added ws q fits) (λ l. absurd (ne l.0)) (cases_live ws q d)

-- column b leads there from a number below n in the set
abbrev pub Moves : List ℕ → ℕ → List ℕ → ℕ → ℕ → Type 0
Moves t b ws n q = (p : ℕ) × (p < n) × (has ws p ≡ true) × (cell t p b ≡ q)

module _ (t : List ℕ) (d : Option ℕ) (b : ℕ) (ws : List ℕ) (m q : ℕ) where
  pub moved_from : (n : ℕ) → ((p : ℕ) → p < n → cell t p b / 32 < m) → has (moved t d b ws m n) q ≡ true → Moves t b ws n q × (Some q ≡ d → ⊥)
  moved_from zero f h = absurd (both_ways (has (replicate m 0) q) (has_none m q) h)
  moved_from (suc n) f h = ⊎_elim
      (λ (e : has ws n ≡ true). ⊎_elim
      (λ (g : (q ≡ cell t n b) × (Some (cell t n b) ≡ d → ⊥)). ((n, omega arith, e, sym g.0), λ z. g.1 (ap Some (sym g.0) ∙ z)))
      (λ (g : has (moved t d b ws m n) q ≡ true). more (moved_from n (λ p l. f p (omega arith)) g))
      (live_in (moved t d b ws m n) (cell t n b) d (omega (arith, f n (omega arith), length_moved t d b ws m n)) q
      (ap (λ z. has z q) (sym (cond-true (has ws n) (add_live (moved t d b ws m n) (cell t n b) d) (moved t d b ws m n) e)) ∙ h)))
      (λ (e : has ws n ≡ false). more (moved_from n (λ p l. f p (omega arith)) (ap (λ z. has z q) (sym (cond-false (has ws n) (add_live (moved t d b ws m n) (cell t n b) d) (moved t d b ws m n) e)) ∙ h)))
      (cases_Bool (has ws n))
    where
      more : Moves t b ws n q × (Some q ≡ d → ⊥) → Moves t b ws (suc n) q × (Some q ≡ d → ⊥)
      more (r, ne) = ((r.0, omega (arith, r.1), r.2, r.3), ne)

  pub moved_to : (n : ℕ) → ((p : ℕ) → p < n → cell t p b / 32 < m) → Moves t b ws n q → (Some q ≡ d → ⊥) → has (moved t d b ws m n) q ≡ true
  moved_to zero f r ne = absurd (omega (arith, r.1))
  moved_to (suc n) f r ne = ⊎_elim
      (λ (e : has ws n ≡ true). ap (λ z. has z q) (cond-true (has ws n) (add_live (moved t d b ws m n) (cell t n b) d) (moved t d b ws m n) e) ∙ ⊎_elim
      (λ (i : r.0 ≡ n). let g : cell t n b ≡ q = ap (λ z. cell t z b) (sym i) ∙ r.3 in
      ap (has (add_live (moved t d b ws m n) (cell t n b) d)) (sym g) ∙ live_new (moved t d b ws m n) (cell t n b) d fits (λ z. ne (ap Some (sym g) ∙ z)))
      (λ (i : r.0 ≡ n → ⊥). live_old (moved t d b ws m n) (cell t n b) d fits q (moved_to n (λ p l. f p (omega arith)) (less i) ne))
      (cases_eq r.0 n))
      (λ (e : has ws n ≡ false). ap (λ z. has z q) (cond-false (has ws n) (add_live (moved t d b ws m n) (cell t n b) d) (moved t d b ws m n) e)
      ∙ moved_to n (λ p l. f p (omega arith)) (less (λ i. both_ways (has ws n) e (ap (has ws) (sym i) ∙ r.2))) ne)
      (cases_Bool (has ws n))
    where
      fits : cell t n b / 32 < length (moved t d b ws m n)
      fits = omega (arith, f n (omega arith), length_moved t d b ws m n)

      less : (r.0 ≡ n → ⊥) → Moves t b ws n q
      less d = (r.0, omega (arith, r.1), r.2, r.3)

-- words of 32 bits
abbrev pub Small : List ℕ → Type 0
Small ws = (i : ℕ) → get_or ws i 0 < 2 ^ 32

small_set : (ws : List ℕ) (i v : ℕ) → v < 2 ^ 32 → Small ws → Small (set ws i v)
small_set ws i v h s j = ⊎_elim
    (λ (e : j ≡ i). ⊎_elim (λ (l : i < length ws). subst (λ z. z < 2 ^ 32) (sym (ap (λ z. get_or (set ws i v) z 0) e ∙ get_or-set_same ws i v 0 l)) h)
    (λ (l : length ws ≤ i). subst (λ z. z < 2 ^ 32) (sym (get_or_past (set ws i v) j 0 (omega (arith, length-set ws i v)))) (omega arith)) (cases_lt i (length ws)))
    (λ (n : j ≡ i → ⊥). subst (λ z. z < 2 ^ 32) (sym (get_or-set_other ws i j v 0 n)) (s j))
    (cases_eq j i)

pub small_live : (ws : List ℕ) (q : ℕ) (d : Option ℕ) → Small ws → Small (add_live ws q d)
small_live ws q d s = ⊎_elim
    (λ l. subst Small (sym l.1) (small_set ws (q / 32) (bit_or (get_or ws (q / 32) 0) (2 ^ (q % 32))) (or_lt 32 (get_or ws (q / 32) 0) (2 ^ (q % 32)) (s (q / 32)) (pow_below (q % 32) 32 (omega arith))) s))
    (λ l. subst Small (sym l.1) s)
    (cases_live ws q d)

pub small_none : (m : ℕ) → Small (replicate m 0)
small_none m i = omega (arith, none_word m i)

pub small_moved : (t : List ℕ) (d : Option ℕ) (b : ℕ) (ws : List ℕ) (m n : ℕ) → Small (moved t d b ws m n)
small_moved t d b ws m zero = small_none m
small_moved t d b ws m (suc n) = cond_both (has ws n) (add_live (moved t d b ws m n) (cell t n b) d) (moved t d b ws m n) Small (λ _. small_live (moved t d b ws m n) (cell t n b) d (small_moved t d b ws m n)) (λ _. small_moved t d b ws m n)

-- what a set accepts
pub accepts_from : (t ws : List ℕ) (n : ℕ) → accepts t ws n ≡ true → (q : ℕ) × (has ws q ≡ true) × (shown t q ≡ 1)
accepts_from t ws zero h = absurd cc
accepts_from t ws (suc n) h = ⊎_elim
    (λ a. let s = and_parts (has ws n) (eqb (shown t n) 1) a in (n, s.0, eqb-true (shown t n) 1 s.1))
    (λ b. accepts_from t ws n b)
    (or_cases (has ws n && eqb (shown t n) 1) (accepts t ws n) h)

-- sets with the same numbers are the same words
bit_same : (x y j : ℕ) → eqb (bit_at x j) 1 ≡ eqb (bit_at y j) 1 → bit_at x j ≡ bit_at y j
bit_same x y j e = ⊎_elim
    (λ (h : bit_at x j ≡ 1). h ∙ sym (eqb-true (bit_at y j) 1 (sym e ∙ eq-eqb (bit_at x j) 1 h)))
    (λ (h : bit_at x j ≡ 1 → ⊥). omega (arith, h, eqb-false (bit_at y j) 1 (sym e ∙ ne_eqb (bit_at x j) 1 h)))
    (cases_eq (bit_at x j) 1)

pub sets_same : (xs ys : List ℕ) → length xs ≡ length ys → Small xs → Small ys → ((q : ℕ) → q < 32 * length xs → has xs q ≡ has ys q) → xs ≡ ys
sets_same xs ys e a b f = ext_get_or 0 xs ys e (λ i h. same_from_bits_below 32 (get_or xs i 0) (get_or ys i 0) (a i) (b i) (λ j l.
    bit_same (get_or xs i 0) (get_or ys i 0) j (rw (word i j l, place i j l) at (f (32 * i + j) (omega arith)))))
  where
    word : (i j : ℕ) → j < 32 → (32 * i + j) / 32 ≡ i
    word i j l = omega arith

    place : (i j : ℕ) → j < 32 → (32 * i + j) % 32 ≡ j
    place i j l = omega arith
