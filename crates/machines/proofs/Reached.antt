-- The keys that a system reaches part the words into classes, and the laws of classes that a test decides. Assumes nothing.
use Rattle.std.proofs.Common.{◌≡◌, ℕ, ◌+◌, Bool, true, ◌⊎◌, List, [], ◌∷◌, length, get_or, refl, inl, inr, ⊎_elim, arith}
use Rattle.std.proofs.lemmas.Bool.{cases_eq, cases_Bool, both_ways}
use Rattle.machines.specs.Words.{Word}
use Rattle.machines.specs.Systems.{Key, reach, Pairwise}
use Rattle.machines.specs.Laws.{Apart, AtMost, MoreThan, Among, SameKey, Crowded, KeyClasses}
use Rattle.machines.proofs.Places.{nth_read}
use Rattle.machines.proofs.Pigeons.{crowded, pairwise_many, among_few}
use Rattle.machines.proofs.Nerode.{nerode_congruence, key_push, key_congruence}
use Rattle.machines.proofs.Firsts.{numbered_firsts, explored_classes}
use Rattle.machines.proofs.Finite.{finite}

decided : (b : Bool) → (b ≡ true) ⊎ (b ≡ true → ⊥)
decided b = ⊎_elim (λ e. inl e) (λ e. inr (both_ways b e)) (cases_Bool b)

pub crowded_stands_lem : Crowded
crowded_stands_lem = record {
  nerode = λ f n ws firsts. crowded (nerode_congruence f).back (nerode_congruence f).on;
  decided = λ g back on n ws firsts. crowded back on;
  finite = λ g R. finite R (λ u v a b. decided (g u v));
}

key_same : (a b : Key) → (a ≡ b) ⊎ (a ≡ b → ⊥)
key_same [] [] = inl refl
key_same [] (y ∷ b) = inr (λ e. let z : ◌≡◌ {A = ℕ} 0 1 = cc in omega arith)
key_same (x ∷ a) [] = inr (λ e. let z : ◌≡◌ {A = ℕ} 0 1 = cc in omega arith)
key_same (x ∷ a) (y ∷ b) = ⊎_elim
    (λ (p : x ≡ y). ⊎_elim (λ (q : a ≡ b). inl (cc)) (λ (q : a ≡ b → ⊥). inr (λ e. q (cc))) (key_same a b))
    (λ (p : x ≡ y → ⊥). inr (λ e. p (cc)))
    (cases_eq x y)

module _ (next : Key → ℕ → Key) (s : Key) where
  apart_pairwise : (n : ℕ) (ws : List Word) → length ws ≡ n → Apart (SameKey next s) ws → Pairwise next s n ws
  apart_pairwise n ws e apart = record {
    many = e;
    bytes = λ i l. apart.bytes i (get_or ws i []) (nth_read ws [] i (omega arith));
    differ = λ i j l h d. apart.differ i j (get_or ws i []) (get_or ws j []) (nth_read ws [] i (omega arith)) (nth_read ws [] j (omega arith)) l d;
  }

  keys_finite : (n : ℕ) → AtMost n (SameKey next s) ⊎ MoreThan n (SameKey next s)
  keys_finite = finite (key_congruence next s) (λ u v a b. key_same (reach next s u) (reach next s v))

  pub few_keys : (ks : List Key) → Among next s ks → AtMost (length ks) (SameKey next s)
  few_keys ks among = ⊎_elim (λ few. few) (λ (ws, long, apart). absurd (omega (arith, among_few ks among apart))) (keys_finite (length ks))

  pub few_or_pairwise : (n : ℕ) → AtMost n (SameKey next s) ⊎ ((ws : List Word) × Pairwise next s (n + 1) ws)
  few_or_pairwise n = ⊎_elim (λ few. inl few) (λ (ws, long, apart). inr (ws, apart_pairwise (n + 1) ws long apart)) (keys_finite n)

pub key_classes_stand_lem : KeyClasses
key_classes_stand_lem = record {
  push = key_push;
  classes = λ next s k key goes X. let F = numbered_firsts X.numbered in (F.0, explored_classes X F.1, F.1.long);
  few = few_keys;
  many = λ next s n ws firsts. pairwise_many (λ u v a b e. e);
  finite = few_or_pairwise;
}
