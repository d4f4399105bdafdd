-- Keys in buckets, from none to one more, and how a chain is followed; one index from step to step. Assumes nothing.
use Rattle.std.proofs.Common.{◌≡◌, ℕ, ◌+◌, ◌-◌, ◌<◌, ◌≤◌, List, length, get_or, set, replicate, sym, ap, ◌∙◌, subst, ⊎_elim, arith, below_more}
use Rattle.std.proofs.lemmas.Bool.{cases_eq, cases_lt, cases_order}
use Rattle.std.proofs.lemmas.List.{get_or-set_same, get_or-set_other, get_or-replicate}
use Rattle.exploration.specs.Hashed.{bucket, Last, Indexed}
use Rattle.exploration.specs.Standing.{Same}
use Rattle.exploration.specs.declared.index.Index.{Index}

module _ (m : ℕ) (key : ℕ → List ℕ) (k : ℕ) (heads links : List ℕ) (p : Indexed m key k heads links) where
  -- one more key of a bucket is not it
  pub chain_on : (next : ℕ) (x : List ℕ) → 0 < next → next ≤ k → (0 < next → bucket m (key (next - 1)) ≡ bucket m x) → ((i : ℕ) → next ≤ i → i < k → key i ≡ x → ⊥) → (key (next - 1) ≡ x → ⊥)
      → (get_or links (next - 1) 0 ≤ k) × (0 < get_or links (next - 1) 0 → bucket m (key (get_or links (next - 1) 0 - 1)) ≡ bucket m x)
      × ((i : ℕ) → get_or links (next - 1) 0 ≤ i → i < k → key i ≡ x → ⊥)
  chain_on next x h w e f d = let q = p.links_last (next - 1) (omega arith) in (
    omega (arith, q.within),
    (λ l. q.here l ∙ e h),
    λ i a b c. ⊎_elim
        (λ (o : i ≡ next - 1). d (subst (λ z. key z ≡ x) o c))
        (⊎_elim (λ (o : i < next - 1). q.past i a o (ap (bucket m) c ∙ sym (e h))) (λ (o : next - 1 < i). f i (omega arith) b c))
        (cases_order i (next - 1)),
  )

  -- one more key
  pub indexed_more : (key' : ℕ → List ℕ) (h : ℕ) → ((i : ℕ) → i < k → key' i ≡ key i) → bucket m (key' k) ≡ h → h < m → m ≡ length heads → k < length links
      → Indexed m key' (k + 1) (set heads h (k + 1)) (set links k (get_or heads h 0))
  indexed_more key' h same b w l n = record {
    heads_last = λ g v. ⊎_elim
        (λ (e : g ≡ h). subst (λ z. Last m key' z (k + 1) (get_or (set heads h (k + 1)) z 0)) (sym e)
        (subst (Last m key' h (k + 1)) (sym (get_or-set_same heads h (k + 1) 0 (omega arith)))
        (record { within = omega arith; here = λ _. ap (λ z. bucket m (key' z)) (last_is k) ∙ b; past = λ i a c _. absurd (omega arith) })))
        (λ (d : g ≡ h → ⊥). subst (Last m key' g (k + 1)) (sym (get_or-set_other heads h g (k + 1) 0 d))
        (let q = moved g k (get_or heads g 0) (omega arith) (p.heads_last g v) in record {
          within = omega (arith, q.within);
          here = q.here;
          past = λ i a c e. ⊎_elim (λ (o : i < k). q.past i a o e) (λ (o : k ≤ i). d (sym (sym b ∙ ap (λ z. bucket m (key' z)) (omega arith) ∙ e))) (cases_lt i k);
        }))
        (cases_eq g h);
    links_last = below_more (λ i. Last m key' (bucket m (key' i)) i (get_or (set links k (get_or heads h 0)) i 0)) k
        (λ i v. subst (Last m key' (bucket m (key' i)) i) (sym (get_or-set_other links k i (get_or heads h 0) 0 (omega arith)))
        (moved (bucket m (key' i)) i (get_or links i 0) (omega arith) (subst (λ z. Last m key z i (get_or links i 0)) (ap (bucket m) (sym (same i v))) (p.links_last i v))))
        (subst (Last m key' (bucket m (key' k)) k) (sym (get_or-set_same links k (get_or heads h 0) 0 n))
        (subst (λ z. Last m key' z k (get_or heads h 0)) (sym b) (moved h k (get_or heads h 0) (omega arith) (p.heads_last h w))));
  }
    where
      last_is : (j : ℕ) → j + 1 - 1 ≡ j
      last_is j = omega arith

      moved : (g j c : ℕ) → j ≤ k → Last m key g j c → Last m key' g j c
      moved g j c v q = record {
        within = q.within;
        here = λ a. ap (bucket m) (same (c - 1) (omega (arith, q.within))) ∙ q.here a;
        past = λ i a o e. q.past i a o (ap (bucket m) (sym (same i (omega arith))) ∙ e);
      }

-- no key
pub indexed_none : (m : ℕ) (key : ℕ → List ℕ) (heads links : List ℕ) → heads ≡ replicate m 0 → Indexed m key 0 heads links
indexed_none m key heads links e = record {
  heads_last = λ h l. subst (Last m key h 0) (sym (ap (λ z. get_or z h 0) e ∙ get_or-replicate m h 0 0 l)) (record { within = omega arith; here = λ a. absurd (omega arith); past = λ i a c _. absurd (omega arith) });
  links_last = λ i l. absurd (omega arith);
}

-- one index from step to step
pub same_on : {x y z : Index} → Same x y → Same y z → Same x z
same_on p q = record { size = q.size ∙ p.size; most = q.most ∙ p.most; keys = q.keys ∙ p.keys; heads = q.heads ∙ p.heads; links = q.links ∙ p.links }

pub counts_up : {k k' i : ℕ} → (i < k → k' ≡ k) × (i ≡ k → k' ≡ k + 1) → i ≤ k → k ≤ k'
counts_up {k} {k'} {i} p h = ⊎_elim (λ (o : i < k). omega (arith, p.0 o)) (λ (o : k ≤ i). omega (arith, p.1 (omega arith))) (cases_lt i k)
