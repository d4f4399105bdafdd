-- What a sequence and a repetition match, said by words and not by the tests that decide it. Assumes nothing.
--   All P ws     P holds of each of them
--   Meaning      p then q matches the words that are one of p's and then one of q's; many p matches
--                the words that are any number of p's, empty ones among them
use Rattle.std.specs.Prelude.{◌≡◌, true, ◌↔◌, List, [], ◌∷◌, ◌++◌}
use Rattle.machines.specs.Words.{Word, joined}
use Rattle.patterns.specs.Patterns.{Pattern, seq, star, matches}

abbrev pub All : (Word → Type 0) → List Word → Type 0
All P [] = Unit {0}
All P (w ∷ ws) = P w × All P ws

pub record Meaning : Type 0 where
  pub sequence : (p q : Pattern) (w : Word) → (matches (seq p q) w ≡ true) ↔ ((u : Word) × (v : Word) × (u ++ v ≡ w) × (matches p u ≡ true) × (matches q v ≡ true))
  pub repetition : (p : Pattern) (w : Word) → (matches (star p) w ≡ true) ↔ ((ws : List Word) × (joined ws ≡ w) × All (λ u. matches p u ≡ true) ws)
