-- More things than places: two share one. Assumes nothing.
use Rattle.std.proofs.Common.{◌≡◌, ℕ, zero, suc, ◌+◌, ◌<◌, ◌≤◌, ◌⊎◌, List, [], length, get_or, sym, refl, ap, ◌∙◌, inl, inr, ⊎_elim, arith}
use mathlib.Core.Option.{some}
use Rattle.std.proofs.lemmas.Bool.{cases_eq}
use Rattle.machines.specs.Words.{Word, Bytes}
use Rattle.machines.specs.Classes.{Classes, nth}
use Rattle.machines.specs.Systems.{Key, reach, Pairwise}
use Rattle.machines.specs.Laws.{Apart, Among, SameKey}
use Rattle.machines.proofs.Places.{nth_at, nth_below, nth_one}

-- m things, each at a place below n, no two at one place
pub pigeons : (n m : ℕ) (R : ℕ → ℕ → Type 0) → ((i : ℕ) → i < m → (j : ℕ) × (j < n) × R i j)
    → ((i k j : ℕ) → i < k → k < m → R i j → R k j → ⊥) → m ≤ n
pigeons n zero R put apart = omega arith
pigeons zero (suc m) R put apart = let p = put m (omega arith) in absurd (omega (arith, p.1))
pigeons (suc n) (suc m) R put apart = omega (arith, pigeons n m R' put' apart')
  where
    last : (j : ℕ) × (j < suc n) × R m j
    last = put m (omega arith)

    -- the thing at place n moves to the last thing's place
    R' : ℕ → ℕ → Type 0
    R' i j = (R i j × (j < n)) ⊎ (R i n × (j ≡ last.0))

    put' : (i : ℕ) → i < m → (j : ℕ) × (j < n) × R' i j
    put' i l =
        let p = put i (omega arith) in
        ⊎_elim
        (λ e. let at : R i n = rw e at p.2 in
        let far : (last.0 ≡ n → ⊥) = λ d. apart i m n l (omega arith) at (rw d at last.2) in
        (last.0, omega (arith, last.1, far), inr (at, refl)))
        (λ ne. let small : p.0 < n = omega (arith, p.1) in (p.0, small, inl (p.2, small)))
        (cases_eq p.0 n)

    apart' : (i k j : ℕ) → i < k → k < m → R' i j → R' k j → ⊥
    apart' i k j l s (inl a) (inl b) = apart i k j l (omega arith) a.0 b.0
    apart' i k j l s (inl a) (inr b) = apart i m last.0 (omega arith) (omega arith) (rw b.1 at a.0) last.2
    apart' i k j l s (inr a) (inl b) = apart k m last.0 (omega arith) (omega arith) (rw a.1 at b.0) last.2
    apart' i k j l s (inr a) (inr b) = apart i k n l (omega arith) a.0 b.0

-- the first words of classes are such
pub classes_apart : {E : Word → Word → Type 0} {firsts : List Word} → Classes E firsts → Apart E firsts
classes_apart c = record { bytes = c.bytes; differ = λ i j u v m n l e. omega (arith, c.differ i j u v m n e) }

-- words of which no two are related are at most as many as the classes
pub few_classes : {E : Word → Word → Type 0} {firsts ws : List Word} → ((u v : Word) → E u v → E v u)
    → ((u v w : Word) → E u v → E v w → E u w) → Classes E firsts → Apart E ws → length ws ≤ length firsts
few_classes {E = E} {firsts = firsts} {ws = ws} back on cs apart = pigeons (length firsts) (length ws) At put two
  where
    At : ℕ → ℕ → Type 0
    At i j = (w : Word) × (u : Word) × (nth ws i ≡ some w) × (nth firsts j ≡ some u) × E u w

    put : (i : ℕ) → i < length ws → (j : ℕ) × (j < length firsts) × At i j
    put i l =
        let n = nth_at ws i l in
        let h = cs.all n.0 (apart.bytes i n.0 n.1) in
        (h.0, nth_below firsts h.0 h.1 h.2, (n.0, h.1, n.1, h.2, h.3))

    two : (i k j : ℕ) → i < k → k < length ws → At i j → At k j → ⊥
    two i k j l s (w, u, a, b, e) (x, v, d, g, h) = apart.differ i k w x a d l (on w u x (back u w e) (rw (nth_one firsts j v u g b) at h))

pub crowded : {E : Word → Word → Type 0} {firsts ws : List Word} {n : ℕ} → ((u v : Word) → E u v → E v u)
    → ((u v w : Word) → E u v → E v w → E u w) → length ws ≡ n + 1 → Apart E ws → Classes E firsts → length firsts ≤ n → ⊥
crowded back on long apart cs few = omega (arith, few_classes back on cs apart)

module _ {next : Key → ℕ → Key} {s : Key} where
  -- more keys than n: a relation that tells apart no less than the keys has more classes than n
  pub pairwise_many : {E : Word → Word → Type 0} {n : ℕ} {ws firsts : List Word}
      → ((u v : Word) → Bytes u → Bytes v → E u v → reach next s u ≡ reach next s v)
      → Pairwise next s (n + 1) ws → Classes E firsts → length firsts ≤ n → ⊥
  pairwise_many {E = E} {n = n} {ws = ws} {firsts = firsts} same p cs few = omega (arith, pigeons (length firsts) (n + 1) At put two)
    where
      At : ℕ → ℕ → Type 0
      At i j = (u : Word) × (nth firsts j ≡ some u) × (reach next s u ≡ reach next s (get_or ws i []))

      put : (i : ℕ) → i < n + 1 → (j : ℕ) × (j < length firsts) × At i j
      put i l =
          let h = cs.all (get_or ws i []) (p.bytes i l) in
          (h.0, nth_below firsts h.0 h.1 h.2, (h.1, h.2, same h.1 (get_or ws i []) (cs.bytes h.0 h.1 h.2) (p.bytes i l) h.3))

      two : (i k j : ℕ) → i < k → k < n + 1 → At i j → At k j → ⊥
      two i k j l m (u, a, d) (v, b, e) = p.differ i k l m (sym d ∙ ap (reach next s) (nth_one firsts j u v a b) ∙ e)

  -- words with different keys are at most as many as the keys that are reached
  pub among_few : (ks : List Key) {ws : List Word} → Among next s ks → Apart (SameKey next s) ws → length ws ≤ length ks
  among_few ks {ws = ws} among apart = pigeons (length ks) (length ws) At put two
    where
      At : ℕ → ℕ → Type 0
      At i j = (u : Word) × (nth ws i ≡ some u) × (nth ks j ≡ some (reach next s u))

      put : (i : ℕ) → i < length ws → (j : ℕ) × (j < length ks) × At i j
      put i l =
          let n = nth_at ws i l in
          let h = among n.0 (apart.bytes i n.0 n.1) in
          (h.0, nth_below ks h.0 (reach next s n.0) h.1, (n.0, n.1, h.1))

      two : (i k j : ℕ) → i < k → k < length ws → At i j → At k j → ⊥
      two i k j l m (u, a, d) (v, b, e) = apart.differ i k u v a b l (nth_one ks j (reach next s u) (reach next s v) d e)
