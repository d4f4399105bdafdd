-- A key of one number. Assumes nothing.
use Rattle.std.proofs.Common.{◌≡◌, ℕ, List, [], ◌∷◌, length, set, refl, arith}

pub set_one : (xs : List ℕ) (x : ℕ) → length xs ≡ 1 → set xs 0 x ≡ x ∷ []
set_one [] x h = absurd (omega arith)
set_one (a ∷ []) x h = refl
set_one (a ∷ b ∷ xs) x h = absurd (omega arith)
