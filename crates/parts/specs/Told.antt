-- What each kind of part tells apart: finitely many classes, if its parts leave finitely many, and a byte leads from class to
-- class. Assumes nothing.
--   Finite E          E has finitely many classes
--   Steps E           the class of a word with a byte behind it depends on the word's class alone
--   ToldApart p       both, of what the step at p's top tells apart
--   Left p            p leaves finitely many different things
--   PartsTell         for each kind of part; and so each pattern leaves finitely many things, and fits into some number of classes
use Rattle.std.specs.Prelude.{◌≡◌, ℕ, ◌<◌, ◌≤◌, true, List, [], ◌∷◌, ◌++◌}
use Rattle.machines.specs.Words.{Word, Bytes}
use Rattle.machines.specs.Classes.{Classes}
use Rattle.patterns.specs.Patterns.{Pattern, nothing, empty, range, seq, union, inter, compl, star}
use Rattle.patterns.specs.Residuals.{Of, SameResidual}
use Rattle.patterns.specs.Sizes.{Indistinct, Fits}
use Rattle.patterns.specs.Lists.{sound}

abbrev pub Finite : (Word → Word → Type 0) → Type 0
Finite E = (firsts : List Word) × Classes E firsts

abbrev pub Steps : (Word → Word → Type 0) → Type 0
Steps E = (u v : Word) (b : ℕ) → Bytes u → Bytes v → b < 256 → E u v → E (u ++ b ∷ []) (v ++ b ∷ [])

pub record ToldApart (p : Pattern) : Type 0 where
  pub finite : Finite (Indistinct p)
  pub steps : Steps (Indistinct p)

abbrev pub Left : Pattern → Type 0
Left p = Finite (SameResidual (Of p))

pub record PartsTell : Type 0 where
  pub of_nothing : ToldApart nothing
  pub of_empty : ToldApart empty
  pub of_range : (a b : ℕ) → a ≤ b → b < 256 → ToldApart (range a b)
  pub of_sequence : (p q : Pattern) → Left p → Left q → ToldApart (seq p q)
  pub of_union : (p q : Pattern) → Left p → Left q → ToldApart (union p q)
  pub of_intersection : (p q : Pattern) → Left p → Left q → ToldApart (inter p q)
  pub of_complement : (p : Pattern) → Left p → ToldApart (compl p)
  pub of_star : (p : Pattern) → Left p → ToldApart (star p)
  pub left : (p : Pattern) → sound p ≡ true → Left p
  pub fits : (p : Pattern) → sound p ≡ true → (n : ℕ) × Fits n p
