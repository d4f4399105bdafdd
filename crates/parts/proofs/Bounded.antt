-- Keys of n numbers below a bound are finitely many. Assumes nothing.
--   Listed ks k       k is one of ks
--   Within B n k      k has n numbers, and each is below B
use Rattle.std.proofs.Common.{◌≡◌, ℕ, zero, suc, ◌<◌, List, [], ◌∷◌, ◌++◌, length, get_or, refl, ⊎_elim, arith}
use mathlib.Core.Option.{some}
use Rattle.std.proofs.lemmas.Bool.{cases_eq}
use Rattle.machines.specs.Words.{Word, Bytes}
use Rattle.machines.specs.Classes.{nth}
use Rattle.machines.specs.Systems.{Key, reach}
use Rattle.machines.specs.Laws.{Among}
use Rattle.machines.proofs.Places.{nth_front, none_some}

abbrev Listed : List Key → Key → Type 0
Listed ks k = (i : ℕ) × (nth ks i ≡ some k)

pub record Within (B n : ℕ) (k : Key) : Type 0 where
  pub long : length k ≡ n
  pub low : (i : ℕ) → get_or k i 0 < B

listed_behind : (ks ls : List Key) (k : Key) → Listed ls k → Listed (ks ++ ls) k
listed_behind [] ls k l = l
listed_behind (x ∷ ks) ls k l = let h = listed_behind ks ls k l in (suc h.0, h.1)

-- each key with b before it
abbrev after : ℕ → List Key → List Key
after b [] = []
after b (k ∷ ks) = (b ∷ k) ∷ after b ks

listed_after : (b : ℕ) (ks : List Key) (k : Key) (i : ℕ) → nth ks i ≡ some k → nth (after b ks) i ≡ some (b ∷ k)
listed_after b [] k i e = absurd (none_some k e)
listed_after b (x ∷ ks) k zero e = cc
listed_after b (x ∷ ks) k (suc i) e = listed_after b ks k i e

-- with each number below B before it
abbrev after_each : ℕ → List Key → List Key
after_each zero ks = []
after_each (suc b) ks = after b ks ++ after_each b ks

listed_each : (B b : ℕ) (ks : List Key) (k : Key) → b < B → Listed ks k → Listed (after_each B ks) (b ∷ k)
listed_each zero b ks k l h = absurd (omega arith)
listed_each (suc B) b ks k l h = ⊎_elim
    (λ (e : b ≡ B). rw e (h.0, nth_front (after B ks) (after_each B ks) h.0 (B ∷ k) (listed_after B ks k h.0 h.1)))
    (λ (e : b ≡ B → ⊥). listed_behind (after B ks) (after_each B ks) (b ∷ k) (listed_each B b ks k (omega arith) h))
    (cases_eq b B)

abbrev keys : ℕ → ℕ → List Key
keys B zero = [] ∷ []
keys B (suc n) = after_each B (keys B n)

listed_keys : (B n : ℕ) (k : Key) → length k ≡ n → ((i : ℕ) → get_or k i 0 < B) → Listed (keys B n) k
listed_keys B zero [] e low = (0, refl)
listed_keys B zero (x ∷ k) e low = absurd (omega arith)
listed_keys B (suc n) [] e low = absurd (omega arith)
listed_keys B (suc n) (x ∷ k) e low = listed_each B x (keys B n) k (low 0) (listed_keys B n k (omega arith) (λ i. low (suc i)))

-- a system whose keys are bounded has finitely many
pub bounded_among : (next : Key → ℕ → Key) (s : Key) (B n : ℕ) → ((w : Word) → Bytes w → Within B n (reach next s w)) → (ks : List Key) × Among next s ks
bounded_among next s B n within = (keys B n, λ w ok. let h = within w ok in listed_keys B n (reach next s w) h.long h.low)
