-- A relation has one list of first words, and an output function one table over it. Assumes nothing.
use Rattle.std.proofs.Common.{◌≡◌, ℕ, zero, suc, ◌+◌, ◌*◌, ◌/◌, ◌%◌, ◌<◌, List, [], ◌∷◌, ◌++◌, length, sym, refl, ap, ◌∙◌, ⊎_elim, arith}
use mathlib.Core.Option.{some}
use Rattle.machines.specs.Words.{Word, Less}
use Rattle.machines.specs.Classes.{Classes, nth}
use Rattle.machines.specs.Laws.{TableOf, OneTable}
use Rattle.machines.proofs.Shortlex.{less_irreflexive, less_transitive, less_total}
use Rattle.machines.proofs.Places.{none_some, nth_at, nth_below, nth_same}
use Rattle.machines.proofs.Nerode.{nerode_congruence}

-- two lists in order with the same words are one
in_order_same : (f g : List Word)
    → ((i j : ℕ) (u v : Word) → nth f i ≡ some u → nth f j ≡ some v → i < j → Less u v)
    → ((i j : ℕ) (u v : Word) → nth g i ≡ some u → nth g j ≡ some v → i < j → Less u v)
    → ((i : ℕ) (u : Word) → nth f i ≡ some u → (j : ℕ) × (nth g j ≡ some u))
    → ((i : ℕ) (u : Word) → nth g i ≡ some u → (j : ℕ) × (nth f j ≡ some u)) → f ≡ g
in_order_same [] [] a b x y = refl
in_order_same [] (v ∷ g) a b x y = absurd (none_some v (y 0 v refl).1)
in_order_same (u ∷ f) [] a b x y = absurd (none_some u (x 0 u refl).1)
in_order_same (u ∷ f) (v ∷ g) a b x y =
    let head = same (x 0 u refl) (y 0 v refl) in
    let rest = in_order_same f g (λ i j p q m n l. a (suc i) (suc j) p q m n (omega arith)) (λ i j p q m n l. b (suc i) (suc j) p q m n (omega arith))
    (λ i p m. inside g v p (rw head at (a 0 (suc i) u p refl m (omega arith))) (x (suc i) p m))
    (λ i p m. inside f u p (rw (← head) at (b 0 (suc i) v p refl m (omega arith))) (y (suc i) p m)) in
    cc
  where
    same : (j : ℕ) × (nth (v ∷ g) j ≡ some u) → (j : ℕ) × (nth (u ∷ f) j ≡ some v) → u ≡ v
    same (zero, p) q = cc
    same (suc j, p) (zero, q) = cc
    same (suc j, p) (suc k, q) = absurd (less_irreflexive u (less_transitive u v u (a 0 (suc k) u v refl q (omega arith)) (b 0 (suc j) v u refl p (omega arith))))

    inside : (h : List Word) (r p : Word) → Less r p → (j : ℕ) × (nth (r ∷ h) j ≡ some p) → (j : ℕ) × (nth h j ≡ some p)
    inside h r p l (zero, m) = let e : r ≡ p = cc in absurd (less_irreflexive p (rw e at l))
    inside h r p l (suc j, m) = (j, m)

-- a relation has one list of first words
module _ {E : Word → Word → Type 0} (back : (u v : Word) → E u v → E v u) where
  shared : (f g : List Word) → Classes E f → Classes E g → (i : ℕ) (u : Word) → nth f i ≡ some u → (j : ℕ) × (nth g j ≡ some u)
  shared f g cf cg i u m =
      let h = cg.all u (cf.bytes i u m) in
      let e : h.1 ≡ u =
      ⊎_elim
      (λ l. absurd (cf.first i u h.1 m (cg.bytes h.0 h.1 h.2) l (back h.1 u h.3)))
      (⊎_elim (λ s. s) (λ l. absurd (cg.first h.0 h.1 u h.2 (cf.bytes i u m) l h.3)))
      (less_total h.1 u) in
      (h.0, h.2 ∙ ap some e)

  pub classes_one : (f g : List Word) → Classes E f → Classes E g → f ≡ g
  classes_one f g cf cg = in_order_same f g cf.order cg.order (shared f g cf cg) (shared g f cg cf)

-- a table's numbers are said by its first words
module _ {E : Word → Word → Type 0} {f : Word → ℕ} (back : (u v : Word) → E u v → E v u) (on : (u v w : Word) → E u v → E v w → E u w) where
  module _ (firsts : List Word) (s t : List ℕ) (S : TableOf (λ b. b) E f firsts s) (T : TableOf (λ b. b) E f firsts t) where
    same_at : (i r k : ℕ) (u : Word) (n : ℕ) → nth firsts i ≡ some u → r < 257 → k ≡ 257 * i + r → nth s k ≡ some n → nth t k ≡ some n
    same_at i zero k u n m l e h = let here : k ≡ 257 * i = omega arith in cc (S.outputs i u m, T.outputs i u m)
    same_at i (suc b) k u n m l e h =
        let g = S.goes i b u m (omega arith) in
        let d = T.goes i b u m (omega arith) in
        let here : k ≡ 257 * i + (1 + b) = omega arith in
        let row : g.0 ≡ d.0 = S.classes.differ g.0 d.0 g.1 d.1 g.3 d.3 (on g.1 (u ++ b ∷ []) d.1 (back (u ++ b ∷ []) g.1 g.4) d.4) in
        cc (g.2, d.2)

    same_table : s ≡ t
    same_table = nth_same s t (S.long ∙ sym T.long) (λ k n h.
        let within : k < 257 * length firsts = omega (arith, nth_below s k n h, S.long) in
        let u = nth_at firsts (k / 257) (omega arith) in
        same_at (k / 257) (k % 257) k u.0 n u.1 (omega arith) (omega arith) h)

  pub one_table : (a b : List Word) (s t : List ℕ) → TableOf (λ c. c) E f a s → TableOf (λ c. c) E f b t → (a ≡ b) × (s ≡ t)
  one_table a b s t S T = let e = classes_one back a b S.classes T.classes in (e, same_table b s t (rw e at S) T)

pub one_table_stands_lem : OneTable
one_table_stands_lem f = one_table (nerode_congruence f).back (nerode_congruence f).on
