-- Facts about the definitions that are easily got wrong. Assumes nothing.
--   a, b           the bytes 97 and 98
--   chain          four times a, then b
--   not_..         not p matches every word that p doesn't, of any length, the empty one too
--   many_..        many p always matches the empty word; empty parts add nothing, nor does repeating once more
--   last_byte, every_byte    a range goes up to 255 and with it
--   same_place, same_word    a b and b end at one place of a text, but 'and' is of one word, and no word is both
--   short, later, later_without, apart    no continuation of at most three bytes tells two words apart, and one of four does
--   OnceWrong      all of them
use Rattle.std.specs.Prelude.{◌≡◌, ℕ, ◌<◌, ◌≤◌, true, false, ◌↔◌, [], ◌∷◌, length}
use Rattle.machines.specs.Words.{Word}
use Rattle.patterns.specs.Patterns.{Pattern, empty, range, seq, inter, compl, star, matches}
use Rattle.patterns.specs.Residuals.{Of, SameResidual}
use Rattle.patterns.specs.Searching.{ends}

abbrev pub a : Pattern
a = range 97 97

abbrev pub b : Pattern
b = range 98 98

abbrev pub chain : Pattern
chain = seq a (seq a (seq a (seq a b)))

pub record OnceWrong : Type 0 where
  pub not_empty : matches (compl empty) [] ≡ false
  pub not_empty_a : matches (compl empty) (97 ∷ []) ≡ true
  pub not_a_empty : matches (compl a) [] ≡ true
  pub not_a_longer : matches (compl a) (97 ∷ 97 ∷ []) ≡ true
  pub many_of_empty : (w : Word) → (matches (star empty) w ≡ true) ↔ (w ≡ [])
  pub many_of_many : (p : Pattern) (w : Word) → matches (star (star p)) w ≡ matches (star p) w
  pub many_of_not_empty : (w : Word) → matches (star (compl empty)) w ≡ true
  pub last_byte : matches (range 255 255) (255 ∷ []) ≡ true
  pub every_byte : (w : Word) → (matches (range 0 255) w ≡ true) ↔ ((x : ℕ) × (x < 256) × (w ≡ x ∷ []))
  pub same_place : ends (seq a b ∷ b ∷ inter (seq a b) b ∷ []) (97 ∷ 98 ∷ []) ≡ 3
  pub same_word : (w : Word) → matches (inter (seq a b) b) w ≡ false
  pub short : (x : Word) → length x ≤ 3 → matches chain x ≡ matches chain (97 ∷ x)
  pub later : matches chain (97 ∷ 97 ∷ 97 ∷ 97 ∷ 98 ∷ []) ≡ true
  pub later_without : matches chain (97 ∷ 97 ∷ 97 ∷ 98 ∷ []) ≡ false
  pub apart : SameResidual (Of chain) [] (97 ∷ []) → ⊥
