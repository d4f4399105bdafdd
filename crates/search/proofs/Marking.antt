-- The places at which a bit is set, as a filter of all the places. Assumes nothing.
use Rattle.std.proofs.Common.{◌≡◌, ℕ, ◌+◌, Bool, true, false, List, [], ◌∷◌, map, cond, refl}
use Rattle.std.specs.List.{enumerate_from, filter}
use Rattle.search.specs.Printing.{set_in, places}

abbrev pub marked : ℕ → ℕ × ℕ → Bool
marked i p = set_in p.1 i

marked_more : (k : ℕ) (b : Bool) (p : ℕ × ℕ) (xs : List (ℕ × ℕ)) (ys : List ℕ) → p.0 + 1 ≡ k → map (λ q. q.0 + 1) xs ≡ ys → map (λ q. q.0 + 1) (cond b (p ∷ xs) xs) ≡ cond b (k ∷ ys) ys
marked_more k true p xs ys d e = cc
marked_more k false p xs ys d e = e

pub places_marked : (i k : ℕ) (bits : List ℕ) → map (λ q. q.0 + 1) (filter (marked i) (enumerate_from k bits)) ≡ places i (k + 1) bits
places_marked i k [] = refl
places_marked i k (b ∷ bits) = marked_more (k + 1) (set_in b i) (k, b) _ _ refl (places_marked i (k + 1) bits)
