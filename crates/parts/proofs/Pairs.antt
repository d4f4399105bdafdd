-- Or, and: pairs of rows are what they tell apart. Assumes nothing.
use Rattle.std.proofs.Common.{◌≡◌, ℕ, Bool, true, false, ◌&&◌, ◌||◌, ◌↔◌, List, [], ◌∷◌, refl, ◌∙◌}
use Rattle.machines.specs.Words.{Word, Bytes}
use Rattle.machines.specs.Systems.{reach}
use Rattle.machines.specs.Laws.{SameKey}
use Rattle.exploration.specs.declared.pairs.Connective.{Connective}
use Rattle.exploration.specs.declared.pairs.Connective.TheVariants.{Or, And}
use Rattle.exploration.specs.Pairs.{joined, pair_next, pair_shows}
use Rattle.exploration.proofs.Paired.{pair_gives, pair_same}
use Rattle.patterns.specs.Patterns.{Pattern, matches}
use Rattle.patterns.specs.Residuals.{Of, SameResidual}
use Rattle.patterns.specs.Searching.{bit}
use Rattle.parts.specs.Combining.{joined_pattern}
use Rattle.parts.specs.Steps.{Finished}
use Rattle.parts.proofs.Keyed.{Keyed, finished_rows}

or_bit : (a b : Bool) → joined Or (bit a) (bit b) ≡ bit (a || b)
or_bit true b = refl
or_bit false b = refl

and_bit : (a b : Bool) → joined And (bit a) (bit b) ≡ bit (a && b)
and_bit true b = refl
and_bit false b = refl

module _ {column : ℕ → ℕ} {p q : Pattern} {m n : ℕ} {l r : List ℕ} (F : Finished column p m l) (G : Finished column q n r) where
  both : (u v : Word) → Bytes u → Bytes v → SameKey (pair_next column l r) (0 ∷ 0 ∷ []) u v ↔ (SameResidual (Of p) u v × SameResidual (Of q) u v)
  both u v a b =
      let s = pair_same column l r u v in
      let f = finished_rows F u v a b in
      let g = finished_rows G u v a b in
      ((λ e. let h = s.0 e in (f.0 h.0, g.0 h.1)), (λ e. s.1 (f.1 e.0, g.1 e.1)))

  pub connected_keyed : (j : Connective) → Keyed (joined_pattern j p q) (pair_next column l r) (0 ∷ 0 ∷ [])
  connected_keyed Or = record { keys = both }
  connected_keyed And = record { keys = both }

  pub connected_says : (j : Connective) (w : Word) → Bytes w → pair_shows (joined j) l r (reach (pair_next column l r) (0 ∷ 0 ∷ []) w) ≡ bit (matches (joined_pattern j p q) w)
  connected_says j w ok = pair_gives column l r (joined j) (λ x. bit (matches p x)) (λ x. bit (matches q x)) F.minimal.gives G.minimal.gives w ok ∙ joined_bit j w
    where
      joined_bit : (j : Connective) (w : Word) → joined j (bit (matches p w)) (bit (matches q w)) ≡ bit (matches (joined_pattern j p q) w)
      joined_bit Or w = or_bit (matches p w) (matches q w)
      joined_bit And w = and_bit (matches p w) (matches q w)
