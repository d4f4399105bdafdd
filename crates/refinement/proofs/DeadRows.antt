-- A dead row by columns is one by bytes; so the least dead row of a minimal machine is the only one. Assumes nothing.
use Rattle.std.proofs.Common.{◌≡◌, ℕ, ◌<◌, ◌≤◌, Bool, true, false, MatchBool, List, length, Some, None, Option, MatchOption, ◌≢◌, sym, ap, ◌∙◌, subst, ⊎_elim, arith}
use Rattle.std.specs.List.{AllWithin, HoldsAt}
use Rattle.std.proofs.lemmas.Bool.{cases_lt}
use Rattle.machines.specs.Words.{Word}
use Rattle.machines.specs.Columns.{Columns, cell, shown, leads}
use Rattle.machines.specs.Minimal.{Minimal}
use Rattle.machines.specs.Dead.{Dead}
use Rattle.refinement.specs.DeadRows.{IsDead, DeadRow}
use Rattle.machines.specs.Inside.{Inside}
use Rattle.refinement.proofs.RowCells.{row_cells, length-row_cells, at_cell}
use Rattle.machines.proofs.Dead.{dead_silent, live_or_dead, dead_one}

module _ (c : ℕ) (t : List ℕ) (column least : ℕ → ℕ) (C : Columns c column least) where
  by_bytes : (r : ℕ) → IsDead c t r → Dead (leads column t) (shown t) r
  by_bytes r D = record { silent = D.shows; stays = λ b l. D.stays (column b) (C.within b l) }

  by_columns : (r : ℕ) → Dead (leads column t) (shown t) r → IsDead c t r
  by_columns r D = record { shows = D.silent; stays = λ a l. ap (cell t r) (sym (C.back a l)) ∙ D.stays (least a) (C.byte a l) }

-- no row below k is dead
abbrev pub NoneDead : ℕ → List ℕ → ℕ → Type 0
NoneDead c t k = (r : ℕ) → r < k → IsDead c t r → ⊥

pub dead_row_lem : (c k : ℕ) (t : List ℕ) (d : Option ℕ) → MatchOption d (NoneDead c t k) (λ i. (i < k) × IsDead c t i × NoneDead c t i) → DeadRow c k t d
dead_row_lem c k t None none = record {
  few = λ i e. cc;
  here = λ i e. cc;
  least = none;
  still = λ column lowest C i e. cc;
  only = λ column lowest C f M r l D. absurd (none r l D);
  live = λ column lowest C f M r l n. ⊎_elim (λ h. h) (λ D. absurd (none r l (by_columns c t column lowest C r D))) (live_or_dead M r l);
}
dead_row_lem c k t (Some d) (few, here, least) = record {
  few = λ i e. subst (λ i. i < k) (index e) few;
  here = λ i e. subst (IsDead c t) (index e) here;
  least = lowest_one;
  still = λ column lowest C i e. dead_silent (by_bytes c t column lowest C i (subst (IsDead c t) (index e) here));
  only = only;
  live = λ column lowest C f M r l n. ⊎_elim (λ h. h) (λ D. absurd (n (only column lowest C f M r l (by_columns c t column lowest C r D)))) (live_or_dead M r l);
}
  where
    index : {i : ℕ} → Some d ≡ Some i → d ≡ i
    index e = cc

    lowest_one : (r : ℕ) → r < k → IsDead c t r → d ≤ r
    lowest_one r l D = ⊎_elim (λ (h : r < d). absurd (least r h D)) (λ (h : d ≤ r). h) (cases_lt r d)

    only : (column lowest : ℕ → ℕ) → Columns c column lowest → (f : Word → ℕ) → Minimal f k (leads column t) (shown t) → (r : ℕ) → r < k → IsDead c t r → Some d ≡ Some r
    only column lowest C f M r l D = ap Some (dead_one M d r few l (by_bytes c t column lowest C d here) (by_bytes c t column lowest C r D))

-- what was found in a row that shows 0: each cell leads back to it, or one doesn't
pub dead_says : {c k : ℕ} {t : List ℕ} {i : ℕ} (b : Bool) → Inside c k t → i < k → shown t i ≡ 0
    → MatchBool b (AllWithin (λ x. x ≡ i) (row_cells c t i) 0 (length (row_cells c t i))) ((a : ℕ) × (a < length (row_cells c t i)) × HoldsAt (λ x. x ≢ i) (row_cells c t i) a)
    → MatchBool b (IsDead c t i) (IsDead c t i → ⊥)
dead_says {c} {k} {t} {i} true S l e all = record {
  shows = e;
  stays = λ a h. sym (at_cell S l a 0 h) ∙ all a 0 (omega arith) (omega (arith, length-row_cells S l));
}
dead_says {c} {k} {t} {i} false S l e (a, h, other) = λ D. let m : a < c = omega (arith, length-row_cells S l) in other 0 (at_cell S l a 0 m ∙ D.stays a m)

-- what a search of all rows found
pub dead_found : {c n k : ℕ} {t : List ℕ} (d : Option ℕ) → n ≡ k
    → MatchOption d ((r : ℕ) → 0 ≤ r → r < n → IsDead c t r → ⊥) (λ i. (0 ≤ i) × (i < n) × IsDead c t i × ((r : ℕ) → 0 ≤ r → r < i → IsDead c t r → ⊥))
    → DeadRow c k t d
dead_found None e none = dead_row_lem _ _ _ None (λ r l. none r (omega arith) (omega arith))
dead_found (Some d) e (low, few, here, least) = dead_row_lem _ _ _ (Some d) (omega arith, here, λ r. least r (omega arith))
