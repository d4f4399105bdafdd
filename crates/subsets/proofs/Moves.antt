-- The set of the rows that a column leads to, and whether a set accepts, from member to member. Assumes nothing.
use Rattle.std.proofs.Common.{◌≡◌, ℕ, zero, suc, ◌+◌, ◌-◌, ◌/◌, ◌%◌, ◌^◌, ◌<◌, ◌≤◌, Option, Some, None, Bool, true, false, ◌&&◌, ◌||◌, eqb, List, length, get_or, sym, refl, ap, ◌∙◌, subst, ⊎_elim, add-one, arith}
use mir.Syntax.{w32}
use Rattle.std.specs.Int.{bit_at, trailing_zeros}
use Rattle.std.proofs.Math.Bool.{and-false}
use Rattle.std.proofs.lemmas.Nat.{shr-shr, shr_le}
use Rattle.std.proofs.lemmas.Nat.Bits.{bit_at-zero, bit_at-trailing_zeros, bit_at_above}
use Rattle.std.proofs.lemmas.List.{length-set, length-replicate}
use Rattle.std.proofs.lemmas.Bool.{cond_both, cond-true, cond-false, eq-eqb, ne_eqb, cases_eq, cases_lt, or_left, or_right, and_from}
use Rattle.machines.specs.Columns.{cell, shown}
use Rattle.subsets.specs.Sets.{has, add, add_live, Lacks, Found, moved, accepts, marks}

pub length_live : (ws : List ℕ) (q : ℕ) (d : Option ℕ) → length (add_live ws q d) ≡ length ws
length_live ws q None = length-set ws _ _
length_live ws q (Some d) = cond_both (eqb q d) ws (add ws q) (λ z. length z ≡ length ws) (λ _. refl) (λ _. length-set ws _ _)

pub length_marks : (c : Bool) (d : Option ℕ) (ws : List ℕ) → length (marks c d ws) ≡ length ws
length_marks true d ws = length_live ws 0 d
length_marks false d ws = refl

pub length_moved : (t : List ℕ) (d : Option ℕ) (a : ℕ) (ws : List ℕ) (m n : ℕ) → length (moved t d a ws m n) ≡ m
length_moved t d a ws m zero = length-replicate m 0
length_moved t d a ws m (suc n) = cond_both (has ws n) _ _ (λ z. length z ≡ m) (λ _. length_live _ _ d ∙ length_moved t d a ws m n) (λ _. length_moved t d a ws m n)

-- what is in a set from r up, while it is in one word with r
module _ (ws : List ℕ) (r : ℕ) where
  abbrev rest : ℕ
  rest = get_or ws (r / 32) 0 / 2 ^ (r % 32)

  has_rest : (j : ℕ) → r % 32 + j < 32 → has ws (r + j) ≡ eqb (bit_at rest j) 1
  has_rest j h =
      let w : (r + j) / 32 ≡ r / 32 = omega arith in
      let p : (r + j) % 32 ≡ r % 32 + j = omega arith in
      ap (λ y. eqb (bit_at (get_or ws y 0) ((r + j) % 32)) 1) w ∙ ap (λ y. eqb (bit_at (get_or ws (r / 32) 0) y) 1) p ∙ ap (λ y. eqb (y % 2) 1) (sym (shr-shr (get_or ws (r / 32) 0) (r % 32) j))

  lacks_rest : (n : ℕ) → r % 32 + n ≤ 32 → ((j : ℕ) → j < n → bit_at rest j ≡ 0) → Lacks ws r (r + n)
  lacks_rest n h f s l m =
      let e : s ≡ r + (s - r) = omega arith in
      ap (has ws) e ∙ has_rest (s - r) (omega arith) ∙ ap (λ y. eqb y 1) (f (s - r) (omega arith))

  pub rest_none : rest ≡ 0 → Lacks ws r (r + (32 - r % 32))
  rest_none e = lacks_rest (32 - r % 32) (omega arith) (λ j _. ap (λ y. bit_at y j) e ∙ bit_at-zero j)

  module _ (small : get_or ws (r / 32) 0 < 2 ^ 32) (some : rest ≡ 0 → ⊥) where
    abbrev zeros : ℕ
    zeros = trailing_zeros w32 rest

    at_zeros : (zeros < 32) × (bit_at rest zeros ≡ 1) × ((j : ℕ) → j < zeros → bit_at rest j ≡ 0)
    at_zeros = bit_at-trailing_zeros w32 rest (omega (arith, some)) (omega (arith, shr_le (get_or ws (r / 32) 0) (r % 32), small))

    in_one : r % 32 + zeros < 32
    in_one = ⊎_elim
        (λ (l : r % 32 + zeros < 32). l)
        (λ (l : 32 ≤ r % 32 + zeros). absurd (omega (arith, at_zeros.1, ap (λ y. y % 2) (shr-shr (get_or ws (r / 32) 0) (r % 32) zeros), bit_at_above (get_or ws (r / 32) 0) 32 (r % 32 + zeros) small l)))
        (cases_lt (r % 32 + zeros) 32)

    pub rest_found : Found ws r (r + (32 - r % 32)) (r + zeros)
    rest_found = record {
      from = omega arith;
      none = lacks_rest zeros (omega (arith, in_one)) at_zeros.2;
      few = omega (arith, in_one);
      here = has_rest zeros in_one ∙ eq-eqb (bit_at rest zeros) 1 at_zeros.1;
    }

-- numbers that are passed over add nothing
passed : (ws : List ℕ) {A : Type 0} (f : ℕ → A) → ((n : ℕ) → has ws n ≡ false → f (suc n) ≡ f n) → (q r : ℕ) → q ≤ r → Lacks ws q r → f r ≡ f q
passed ws f skips q zero h l = let e : zero ≡ q = omega arith in ap f e
passed ws f skips q (suc r) h l = ⊎_elim
    (λ (e : suc r ≡ q). ap f e)
    (λ (n : suc r ≡ q → ⊥). skips r (l r (omega arith) (omega arith)) ∙ passed ws f skips q r (omega arith) (λ s g k. l s g (omega arith)))
    (cases_eq (suc r) q)

module _ (t : List ℕ) (d : Option ℕ) (a : ℕ) (ws : List ℕ) (m : ℕ) where
  pub moved_past : (q r : ℕ) → q ≤ r → Lacks ws q r → moved t d a ws m r ≡ moved t d a ws m q
  moved_past = passed ws (moved t d a ws m) (λ n e. cond-false (has ws n) _ _ e)

  pub moved_more : (n q r s : ℕ) (x y vs : List ℕ) → vs ≡ ws → x ≡ moved t d a ws m q → y ≡ add_live x (cell t r a) d → Found vs q n r → s ≡ r + 1 → y ≡ moved t d a ws m s
  moved_more n q r s x y vs same e f F b =
      f ∙ ap (λ z. add_live z (cell t r a) d) (e ∙ sym (moved_past q r F.from (subst (λ z. Lacks z q r) same F.none)))
      ∙ sym (cond-true (has ws r) _ _ (ap (λ z. has z r) (sym same) ∙ F.here)) ∙ ap (moved t d a ws m) (sym (b ∙ add-one r))

module _ (t ws : List ℕ) where
  accepts_past : (q r : ℕ) → q ≤ r → Lacks ws q r → accepts t ws r ≡ accepts t ws q
  accepts_past = passed ws (accepts t ws) (λ n e. ap (λ z. (z && eqb (shown t n) 1) || accepts t ws n) e)

  pub accepts_none : (n q : ℕ) (vs : List ℕ) → vs ≡ ws → accepts t ws q ≡ false → q ≤ n → Lacks vs q n → accepts t ws n ≡ false
  accepts_none n q vs same e h l = accepts_past q n h (subst (λ z. Lacks z q n) same l) ∙ e

  pub accepts_more : (n q r s : ℕ) (vs : List ℕ) → vs ≡ ws → accepts t ws q ≡ false → (shown t r ≡ 1 → ⊥) → Found vs q n r → s ≡ r + 1 → accepts t ws s ≡ false
  accepts_more n q r s vs same e ne F b =
      ap (accepts t ws) (b ∙ add-one r) ∙ ap (λ z. (has ws r && z) || accepts t ws r) (ne_eqb (shown t r) 1 ne) ∙ ap (λ z. z || accepts t ws r) (and-false (has ws r))
      ∙ accepts_none r q vs same e F.from F.none

-- what a set accepts
pub accepts_to : (t ws : List ℕ) (n q : ℕ) → q < n → has ws q ≡ true → shown t q ≡ 1 → accepts t ws n ≡ true
accepts_to t ws zero q l h e = absurd (omega arith)
accepts_to t ws (suc n) q l h e = ⊎_elim
    (λ (s : q ≡ n). or_left (has ws n && eqb (shown t n) 1) (accepts t ws n) (and_from (has ws n) (eqb (shown t n) 1) (ap (has ws) (sym s) ∙ h) (eq-eqb (shown t n) 1 (ap (shown t) (sym s) ∙ e))))
    (λ (o : q ≡ n → ⊥). or_right (has ws n && eqb (shown t n) 1) (accepts t ws n) (accepts_to t ws n q (omega arith) h e))
    (cases_eq q n)
