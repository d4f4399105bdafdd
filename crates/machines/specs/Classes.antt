-- Classes of words under a relation, by their first words. Assumes nothing.
--   nth xs i            what stands at place i of a list, if there is such a place
--   Classes E firsts    the relation E parts the words into classes: each listed word is the first of its class in
--                       shortlex order, the list is in that order, no class is listed twice, and every word is in one
use Rattle.std.specs.Prelude.{◌≡◌, ℕ, zero, suc, ◌<◌, List, [], ◌∷◌}
use Rattle.std.proofs.Math.Option.{Option, some, none}
use Rattle.machines.specs.Words.{Word, Bytes, Less}

abbrev pub nth : {A : Type 0} → List A → ℕ → Option A
nth [] n = none
nth (x ∷ xs) zero = some x
nth (x ∷ xs) (suc n) = nth xs n

pub record Classes (E : Word → Word → Type 0) (firsts : List Word) : Type 0 where
  pub bytes : (i : ℕ) (u : Word) → nth firsts i ≡ some u → Bytes u
  pub order : (i j : ℕ) (u v : Word) → nth firsts i ≡ some u → nth firsts j ≡ some v → i < j → Less u v
  pub first : (i : ℕ) (u v : Word) → nth firsts i ≡ some u → Bytes v → Less v u → E u v → ⊥
  pub differ : (i j : ℕ) (u v : Word) → nth firsts i ≡ some u → nth firsts j ≡ some v → E u v → i ≡ j
  pub all : (w : Word) → Bytes w → (i : ℕ) × (u : Word) × (nth firsts i ≡ some u) × E u w
