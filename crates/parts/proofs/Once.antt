-- Facts about the definitions that are easily got wrong. Assumes nothing.
--   Long n p      p matches words of n bytes alone
use Rattle.std.proofs.Common.{◌≡◌, ℕ, ◌+◌, ◌<◌, true, false, leb, ◌↔◌, [], ◌∷◌, length, sym, refl, ap, ◌∙◌, ⊎_elim, arith, length-append}
use mathlib.Core.Bool.{false≢true}
use Rattle.std.proofs.lemmas.List.{append-nil}
use Rattle.std.proofs.lemmas.Bool.{and_parts, and_from, le-leb, leb-true, cases_Bool}
use Rattle.machines.specs.Words.{Word}
use Rattle.patterns.specs.Patterns.{Pattern, empty, range, seq, inter, compl, star, matches}
use Rattle.patterns.proofs.Cutting.{Many, done, more, many_words, words_many, meaning}
use Rattle.parts.specs.Wrong.{a, b, chain, OnceWrong}
use Rattle.parts.proofs.Keyed.{both_true}
use Rattle.parts.proofs.Repetitions.{many_append}

-- how long the words of a pattern are
abbrev Long : ℕ → Pattern → Type 0
Long n p = (w : Word) → matches p w ≡ true → length w ≡ n

range_long : (x y : ℕ) → Long 1 (range x y)
range_long x y [] h = absurd (false≢true h)
range_long x y (z ∷ []) h = refl
range_long x y (z ∷ (v ∷ w)) h = absurd (false≢true h)

seq_long : (m n : ℕ) (p q : Pattern) → Long m p → Long n q → Long (m + n) (seq p q)
seq_long m n p q f g w h =
    let c = (meaning.sequence p q w).0 h in
    omega (arith, ap length c.2, length-append c.0 c.1, f c.0 c.3, g c.1 c.4)

-- a word that would be too long or too short doesn't match
no_match : (p : Pattern) (n : ℕ) → Long n p → (w : Word) → (length w ≡ n → ⊥) → matches p w ≡ false
no_match p n long w ne = ⊎_elim (λ h. absurd (ne (long w h))) (λ h. h) (cases_Bool (matches p w))

one_part : (p : Pattern) (w : Word) → matches p w ≡ true → matches (star p) w ≡ true
one_part p [] h = refl
one_part p (x ∷ w) h = words_many (matches p) (length (x ∷ w)) (x ∷ w) (more {u = x ∷ w} {v = []} (append-nil (x ∷ w)) (omega arith) h done) (omega arith)

-- many parts that are themselves many parts are many parts
many_many : (p : Pattern) (w : Word) → Many (matches (star p)) w → Many (matches p) w
many_many p w done = done
many_many p w (more {u} {v} e pos h m) = rw (← e) (many_append (matches p) u v (many_words (matches p) (length u) u h) (many_many p v m))

star_star : (p : Pattern) (w : Word) → matches (star (star p)) w ≡ matches (star p) w
star_star p w = both_true (matches (star (star p)) w) (matches (star p) w) (
  λ h. words_many (matches p) (length w) w (many_many p w (many_words (matches (star p)) (length w) w h)) (omega arith),
  λ h. one_part (star p) w h,
)

star_empty_word : (w : Word) → Many (matches empty) w → w ≡ []
star_empty_word w done = refl
star_empty_word w (more {u} e pos h m) = absurd (part u pos h)
  where
    part : (u : Word) → 0 < length u → matches empty u ≡ true → ⊥
    part [] pos h = omega arith
    part (x ∷ u) pos h = false≢true h

whole_bytes : (w : Word) → (matches (range 0 255) w ≡ true) ↔ ((x : ℕ) × (x < 256) × (w ≡ x ∷ []))
whole_bytes w = (into w, λ (x, l, e). rw e (and_from (leb 0 x) (leb x 255) (le-leb 0 x (omega arith)) (le-leb x 255 (omega arith))))
  where
    into : (w : Word) → matches (range 0 255) w ≡ true → (x : ℕ) × (x < 256) × (w ≡ x ∷ [])
    into [] h = absurd (false≢true h)
    into (x ∷ []) h = (x, omega (arith, leb-true x 255 (and_parts (leb 0 x) (leb x 255) h).1), refl)
    into (x ∷ (y ∷ w)) h = absurd (false≢true h)

chain_long : Long 5 chain
chain_long = seq_long 1 4 a (seq a (seq a (seq a b))) one (seq_long 1 3 a (seq a (seq a b)) one (seq_long 1 2 a (seq a b) one (seq_long 1 1 a b one (range_long 98 98))))
  where
    one : Long 1 a
    one = range_long 97 97

pub once_wrong : OnceWrong
once_wrong = record {
  not_empty = refl;
  not_empty_a = refl;
  not_a_empty = refl;
  not_a_longer = refl;
  many_of_empty = λ w. (λ h. star_empty_word w (many_words (matches empty) (length w) w h), λ e. rw e refl);
  many_of_many = star_star;
  many_of_not_empty = λ w. any w;
  last_byte = refl;
  every_byte = whole_bytes;
  same_place = refl;
  same_word = λ w. ⊎_elim
      (λ h. let s = and_parts (matches (seq a b) w) (matches b w) h in
      absurd (omega (arith, seq_long 1 1 a b (range_long 97 97) (range_long 98 98) w s.0, range_long 98 98 w s.1)))
      (λ h. h)
      (cases_Bool (matches (inter (seq a b) b) w));
  short = λ x l. no_match chain 5 chain_long x (λ e. omega arith) ∙ sym (no_match chain 5 chain_long (97 ∷ x) (λ e. omega arith));
  later = refl;
  later_without = refl;
  apart = λ e. false≢true ((e (97 ∷ 97 ∷ 97 ∷ 98 ∷ []) (omega arith, (omega arith, (omega arith, (omega arith, tt))))).1 refl);
}
  where
    any : (w : Word) → matches (star (compl empty)) w ≡ true
    any [] = refl
    any (x ∷ w) = one_part (compl empty) (x ∷ w) refl
