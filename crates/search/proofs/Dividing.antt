-- The first place of a text at which a divider begins, from a search of all its places. Assumes nothing.
use Rattle.std.proofs.Common.{◌≡◌, ℕ, ◌<◌, ◌≤◌, List, length, get_or, Some, None, Option, MatchOption, sym, ◌∙◌, subst, arith}
use Rattle.std.specs.List.{AllWithin, HoldsAt, range_with_len}
use Rattle.std.proofs.lemmas.List.FromFn.{get_or-range_with_len, length-range_with_len}
use Rattle.search.specs.Printing.{Rule, RuleFound}

module _ (s : List ℕ) where
  abbrev all : List ℕ
  all = range_with_len 0 (length s)

  at_place : (k : ℕ) → k < length s → get_or all k 0 ≡ k
  at_place k l = omega (arith, get_or-range_with_len 0 (length s) k 0 l)

  -- none of the places before i
  none_below : (i : ℕ) → i ≤ length s → AllWithin (λ k. Rule s k → ⊥) all 0 i → (k : ℕ) → k < i → Rule s k → ⊥
  none_below i l h k m r = h k 0 (omega arith) m (subst (Rule s) (sym (at_place k (omega (arith, l, m)))) r)

  pub rule_found : (r : Option ℕ)
      → MatchOption r (AllWithin (λ k. Rule s k → ⊥) all 0 (length all)) (λ x. Rule s x × (i : ℕ) × (i < length all) × HoldsAt (λ y. y ≡ x) all i × AllWithin (λ k. Rule s k → ⊥) all 0 i)
      → RuleFound s r
  rule_found None h = λ k r. none_below (length s) (omega arith) (subst (AllWithin (λ k. Rule s k → ⊥) all 0) (length-range_with_len 0 (length s)) h) k (omega (arith, r.within)) r
  rule_found (Some at) h =
      let i = h.1 in
      let within : i < length s = omega (arith, h.2, length-range_with_len 0 (length s)) in
      let is : i ≡ at = sym (at_place i within) ∙ h.3 0 in
      (h.0, λ k m. none_below i (omega (arith, within)) h.4 k (omega (arith, m, is)))
