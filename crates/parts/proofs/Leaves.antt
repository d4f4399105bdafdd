-- The patterns that have no parts: their states are what they leave. Assumes nothing.
--   state l i w       the state that a word leads to from state i
--   ToldBy l i j     a word after which the two states show different things
use Rattle.std.proofs.Common.{◌≡◌, ℕ, zero, suc, ◌<◌, ◌≤◌, Bool, true, false, cond, ◌&&◌, eqb, leb, ◌↔◌, [], ◌∷◌, ◌++◌, get_or, sym, refl, ap, ◌∙◌, subst, ⊎_elim, arith}
use Rattle.std.proofs.lemmas.Bool.{cases_eq, cases_order, and_from, le-leb}
use Rattle.machines.specs.Words.{Word, Bytes}
use Rattle.machines.specs.Systems.{reach}
use Rattle.machines.specs.Laws.{SameKey}
use Rattle.patterns.specs.Patterns.{matches}
use Rattle.patterns.specs.Residuals.{Of, SameResidual}
use Rattle.patterns.specs.Searching.{bit}
use Rattle.parts.specs.declared.leaf.Leaf.{Leaf}
use Rattle.parts.specs.declared.leaf.Leaf.TheVariants.{Nothing, Empty, Range}
use Rattle.parts.specs.Leaves.{leaf_pattern, leaf_next, leaf_shows, leaf_step, SoundLeaf}
use Rattle.parts.proofs.Keyed.{Keyed, residual_nerode}

abbrev state : Leaf → ℕ → Word → ℕ
state l i [] = i
state l i (b ∷ w) = state l (leaf_next l i b) w

leaf_reach : (l : Leaf) (w : Word) (i : ℕ) → reach (leaf_step l) (i ∷ []) w ≡ state l i w ∷ []
leaf_reach l [] i = refl
leaf_reach l (b ∷ w) i = leaf_reach l w (leaf_next l i b)

state_append : (l : Leaf) (u v : Word) (i : ℕ) → state l i (u ++ v) ≡ state l (state l i u) v
state_append l [] v i = refl
state_append l (b ∷ u) v i = state_append l u v (leaf_next l i b)

-- where each state stays
nothing_stays : (w : Word) → state Nothing 0 w ≡ 0
nothing_stays [] = refl
nothing_stays (b ∷ w) = nothing_stays w

empty_late : (w : Word) → state Empty 1 w ≡ 1
empty_late [] = refl
empty_late (x ∷ w) = empty_late w

range_late : (a b : ℕ) (w : Word) → state (Range a b) 2 w ≡ 2
range_late a b [] = refl
range_late a b (x ∷ w) = range_late a b w

-- two bytes are too many, whether the first was in the range or not
range_two : (a b : ℕ) (h : Bool) (z : ℕ) (w : Word) → state (Range a b) (cond (eqb (cond h 1 2) 0) z 2) w ≡ 2
range_two a b true z w = range_late a b w
range_two a b false z w = range_late a b w

hit_shows : (h : Bool) → cond (eqb (cond h 1 2) 1) 1 0 ≡ bit h
hit_shows true = refl
hit_shows false = refl

hit_low : (h : Bool) → cond h 1 2 ≤ 2
hit_low true = omega arith
hit_low false = omega arith

state_shows : (l : Leaf) (w : Word) → leaf_shows l (state l 0 w) ≡ bit (matches (leaf_pattern l) w)
state_shows Nothing w = refl
state_shows Empty [] = refl
state_shows Empty (x ∷ w) = ap (leaf_shows Empty) (empty_late w)
state_shows (Range a b) [] = refl
state_shows (Range a b) (x ∷ []) = hit_shows (leb a x && leb x b)
state_shows (Range a b) (x ∷ (y ∷ w)) = ap (leaf_shows (Range a b)) (range_two a b (leb a x && leb x b) _ w)

pub leaf_says : (l : Leaf) (w : Word) → Bytes w → leaf_shows l (get_or (reach (leaf_step l) (0 ∷ []) w) 0 0) ≡ bit (matches (leaf_pattern l) w)
leaf_says l w ok = ap (λ z. leaf_shows l (get_or z 0 0)) (leaf_reach l w 0) ∙ state_shows l w

-- how many states there are, and for each two a word that tells them apart
empty_low : (w : Word) → state Empty 0 w ≤ 1
empty_low [] = omega arith
empty_low (x ∷ w) = omega (arith, empty_late w)

range_low : (a b : ℕ) (w : Word) → state (Range a b) 0 w ≤ 2
range_low a b [] = omega arith
range_low a b (x ∷ []) = hit_low (leb a x && leb x b)
range_low a b (x ∷ (y ∷ w)) = omega (arith, range_two a b (leb a x && leb x b) (cond (leb a y && leb y b) 1 2) w)

abbrev ToldBy : Leaf → ℕ → ℕ → Type 0
ToldBy l i j = (x : Word) × Bytes x × (leaf_shows l (state l i x) ≡ leaf_shows l (state l j x) → ⊥)

told_back : (l : Leaf) (i j : ℕ) → ToldBy l i j → ToldBy l j i
told_back l i j (x, ok, ne) = (x, ok, λ e. ne (sym e))

empty_told : (j : ℕ) → 0 < j → j ≤ 1 → ToldBy Empty 0 j
empty_told zero l m = absurd (omega arith)
empty_told (suc zero) l m = ([], tt, λ e. omega arith)
empty_told (suc (suc j)) l m = absurd (omega arith)

module _ (a b : ℕ) (le : a ≤ b) (small : b < 256) where
  hit : (h : Bool) → h ≡ true → ◌≡◌ {A = ℕ} (cond (eqb (cond h 1 2) 1) 1 0) 1
  hit true e = refl
  hit false e = let z : ◌≡◌ {A = ℕ} 0 1 = cc in absurd (omega arith)

  from_start : leaf_shows (Range a b) (state (Range a b) 0 (a ∷ [])) ≡ 1
  from_start = hit (leb a a && leb a b) (and_from (leb a a) (leb a b) (le-leb a a (omega arith)) (le-leb a b le))

  range_told : (i j : ℕ) → i < j → j ≤ 2 → ToldBy (Range a b) i j
  range_told zero zero l m = absurd (omega arith)
  range_told zero (suc zero) l m = ([], tt, λ e. omega arith)
  range_told zero (suc (suc zero)) l m = (a ∷ [], (omega arith, tt), λ e. omega (arith, sym from_start ∙ e))
  range_told (suc zero) zero l m = absurd (omega arith)
  range_told (suc zero) (suc zero) l m = absurd (omega arith)
  range_told (suc zero) (suc (suc zero)) l m = ([], tt, λ e. omega arith)
  range_told (suc (suc i)) j l m = absurd (omega arith)
  range_told zero (suc (suc (suc j))) l m = absurd (omega arith)
  range_told (suc zero) (suc (suc (suc j))) l m = absurd (omega arith)

leaf_told : (l : Leaf) → SoundLeaf l → (u v : Word) → (state l 0 u ≡ state l 0 v → ⊥) → ToldBy l (state l 0 u) (state l 0 v)
leaf_told l sound u v ne = ⊎_elim
    (λ (e : state l 0 u ≡ state l 0 v). absurd (ne e))
    (⊎_elim (λ (h : state l 0 u < state l 0 v). up l sound u v h) (λ (h : state l 0 v < state l 0 u). told_back l (state l 0 v) (state l 0 u) (up l sound v u h)))
    (cases_order (state l 0 u) (state l 0 v))
  where
    up : (l : Leaf) → SoundLeaf l → (u v : Word) → state l 0 u < state l 0 v → ToldBy l (state l 0 u) (state l 0 v)
    up Nothing s u v h = absurd (omega (arith, nothing_stays u, nothing_stays v))
    up Empty s u v h =
        let z : 0 ≡ state Empty 0 u = omega (arith, empty_low v) in
        subst (λ i. ToldBy Empty i (state Empty 0 v)) z (empty_told (state Empty 0 v) (omega arith) (empty_low v))
    up (Range a b) (le, small) u v h = range_told a b le small (state (Range a b) 0 u) (state (Range a b) 0 v) h (range_low a b v)

module _ (l : Leaf) (sound : SoundLeaf l) where
  shows_after : (w x : Word) → leaf_shows l (state l (state l 0 w) x) ≡ bit (matches (leaf_pattern l) (w ++ x))
  shows_after w x = ap (leaf_shows l) (sym (state_append l w x 0)) ∙ state_shows l (w ++ x)

  residual_state : (u v : Word) → SameResidual (Of (leaf_pattern l)) u v → state l 0 u ≡ state l 0 v
  residual_state u v e = ⊎_elim
      (λ (h : state l 0 u ≡ state l 0 v). h)
      (λ (ne : state l 0 u ≡ state l 0 v → ⊥).
      let w = leaf_told l sound u v ne in
      absurd (w.2 (shows_after u w.0 ∙ (residual_nerode (leaf_pattern l) u v).0 e w.0 w.1 ∙ sym (shows_after v w.0))))
      (cases_eq (state l 0 u) (state l 0 v))

  state_residual : (u v : Word) → state l 0 u ≡ state l 0 v → SameResidual (Of (leaf_pattern l)) u v
  state_residual u v e = (residual_nerode (leaf_pattern l) u v).1 (λ x ok. sym (shows_after u x) ∙ ap (λ z. leaf_shows l (state l z x)) e ∙ shows_after v x)

  key_residual : (u v : Word) → SameKey (leaf_step l) (0 ∷ []) u v ↔ SameResidual (Of (leaf_pattern l)) u v
  key_residual u v = (
    λ e. state_residual u v (ap (λ z. get_or z 0 0) (sym (leaf_reach l u 0) ∙ e ∙ leaf_reach l v 0)),
    λ e. leaf_reach l u 0 ∙ ap (λ z. z ∷ []) (residual_state u v e) ∙ sym (leaf_reach l v 0),
  )

pub leaf_keyed : (l : Leaf) → SoundLeaf l → Keyed (leaf_pattern l) (leaf_step l) (0 ∷ [])
leaf_keyed Nothing sound = record {
  keys = λ u v a b. (λ e. tt, λ e. leaf_reach Nothing u 0 ∙ ap (λ z. z ∷ []) (nothing_stays u ∙ sym (nothing_stays v)) ∙ sym (leaf_reach Nothing v 0));
}
leaf_keyed Empty sound = record { keys = λ u v a b. key_residual Empty sound u v }
leaf_keyed (Range x y) sound = record { keys = λ u v a b. key_residual (Range x y) sound u v }
