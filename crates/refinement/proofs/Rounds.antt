-- Rounds of a refinement: each tells more rows apart by words, and one that changes nothing is the last. Assumes nothing.
use Rattle.std.proofs.Common.{◌≡◌, ℕ, suc, ◌+◌, ◌*◌, ◌<◌, ◌≤◌, ◌≢◌, ◌⊎◌, Bool, true, false, MatchBool, Some, None, Option, MatchOption, List, [], ◌∷◌, length, get_or, set, sum, sym, refl, ap, ◌∙◌, subst, inl, inr, ⊎_elim, arith, get_or-set_other, get_or-set_same, below_more}
use Rattle.std.specs.List.{AllWithin, HoldsAt, zip}
use Rattle.std.specs.Option.{unwrap_or}
use Rattle.std.proofs.lemmas.Slice.Zip.{length-zip, get_or-zip}
use Rattle.std.proofs.lemmas.List.Sums.{sum_by-cons, sum_by-le}
use Rattle.std.proofs.lemmas.List.{get_or_default}
use Rattle.std.proofs.lemmas.Bool.{cases_eq, cases_lt, cases_order}
use Rattle.machines.specs.Words.{Word, Bytes}
use Rattle.machines.specs.Machines.{run}
use Rattle.machines.specs.Columns.{Columns, cell, shown, leads}
use Rattle.machines.specs.Minimal.{Told}
use Rattle.machines.specs.Inside.{Inside}
use Rattle.refinement.proofs.RowCells.{row_cells, length-row_cells, at_cell}
use Rattle.refinement.specs.Refining.{at, Same, Other, Found, Blocks, Refined}

-- the rows below j are other ones than i if those from the least row of i's block on are
others_below : (c k f : ℕ) (t : List ℕ) (B : ℕ → ℕ) (i j : ℕ) → ((r : ℕ) → r < k → B r ≤ r) → i < k → f ≡ B i → j ≤ i
    → ((r : ℕ) → f ≤ r → r < j → Other c t B r i) → (r : ℕ) → r < j → Other c t B r i
others_below c k f t B i j low l e m others r h = ⊎_elim (λ (u : r < f). inl (λ z. omega (arith, low r (omega arith)))) (λ (u : f ≤ r). others r u h) (cases_lt r f)

-- what the search for a row alike to i found: if none below it, then i, which is alike to itself
pub found_alike : {c k f : ℕ} {t : List ℕ} {i : ℕ} (B : ℕ → ℕ) (d : Option ℕ) → ((r : ℕ) → r < k → B r ≤ r) → i < k → f ≡ B i
    → MatchOption d ((r : ℕ) → f ≤ r → r < i → Other c t B r i) (λ j. (f ≤ j) × (j < i) × Same c t B j i × ((r : ℕ) → f ≤ r → r < j → Other c t B r i))
    → Found c t B i (unwrap_or d i)
found_alike {c} {k} {f} {t} {i} B None low l e others = record {
  low = omega arith;
  same = record { old = refl; shows = refl; on = λ a h. refl };
  least = others_below c k f t B i i low l e (omega arith) others;
}
found_alike {c} {k} {f} {t} {i} B (Some j) low l e (above, below, same, others) = record {
  low = omega arith;
  same = same;
  least = others_below c k f t B i j low l e (omega arith) others;
}

-- the cells of two rows, column by column
abbrev pub pairs : ℕ → List ℕ → ℕ → ℕ → List (ℕ × ℕ)
pairs c t i j = zip (row_cells c t i) (row_cells c t j)

length-pairs : {c k : ℕ} {t : List ℕ} {i j : ℕ} → Inside c k t → i < k → j < k → length (pairs c t i j) ≡ c
length-pairs {c} {k} {t} {i} {j} S l m = omega (arith, length-zip (row_cells c t i) (row_cells c t j), length-row_cells S l, length-row_cells S m)

at_pair : {c k : ℕ} {t : List ℕ} {i j : ℕ} → Inside c k t → i < k → j < k → (a : ℕ) → a < c → (d : ℕ × ℕ) → get_or (pairs c t i j) a d ≡ (cell t i a, cell t j a)
at_pair {c} {k} {t} {i} {j} S l m a h d =
    get_or-zip (row_cells c t i) (row_cells c t j) a d (omega (arith, length-row_cells S l)) (omega (arith, length-row_cells S m))
    ∙ ap (λ z. (z, get_or (row_cells c t j) a d.1)) (at_cell S l a d.0 h) ∙ ap (λ z. (cell t i a, z)) (at_cell S m a d.1 h)

pub pair_inside : {c k : ℕ} {t : List ℕ} {i j : ℕ} → Inside c k t → i < k → j < k → (a x y : ℕ) → a < length (pairs c t i j) → (x, y) ≡ get_or (pairs c t i j) a (x, y) → (x < k) × (y < k)
pair_inside {c} {k} {t} {i} {j} S l m a x y h e =
    let n : a < c = omega (arith, length-pairs S l m) in
    let p : (x, y) ≡ (cell t i a, cell t j a) = e ∙ at_pair S l m a n (x, y) in
    (omega (arith, S.cells i l a n, ap (λ (z : ℕ × ℕ). z.0) p), omega (arith, S.cells j m a n, ap (λ (z : ℕ × ℕ). z.1) p))

-- what was found in two rows of one block that show the same: their cells lead to the same blocks, or two don't
pub alike_says : {c k : ℕ} {t : List ℕ} {i j : ℕ} (B : ℕ → ℕ) (b : Bool) → Inside c k t → i < k → j < k → B i ≡ B j → shown t i ≡ shown t j
    → MatchBool b (AllWithin (λ p. B p.0 ≡ B p.1) (pairs c t i j) 0 (length (pairs c t i j))) ((a : ℕ) × (a < length (pairs c t i j)) × HoldsAt (λ p. B p.0 ≢ B p.1) (pairs c t i j) a)
    → MatchBool b (Same c t B i j) (Other c t B i j)
alike_says {c} {k} {t} {i} {j} B true S l m old shows all = record {
  old = old;
  shows = shows;
  on = λ a h. subst (λ (p : ℕ × ℕ). B p.0 ≡ B p.1) (at_pair S l m a h (0, 0)) (all a (0, 0) (omega arith) (omega (arith, length-pairs S l m)));
}
alike_says {c} {k} {t} {i} {j} B false S l m old shows (a, h, other) =
    let n : a < c = omega (arith, length-pairs S l m) in
    inr (inr (a, n, subst (λ (p : ℕ × ℕ). B p.0 ≢ B p.1) (at_pair S l m a n (0, 0)) (other (0, 0))))

-- the rows below k have their new blocks
abbrev pub Finer : ℕ → ℕ → List ℕ → (ℕ → ℕ) → (ℕ → ℕ) → Type 0
Finer c k t B D = (i : ℕ) → i < k → Found c t B i (D i)

pub finer_more : (c k : ℕ) (t : List ℕ) (B : ℕ → ℕ) (s : List ℕ) (j : ℕ) → k < length s → Finer c k t B (at s) → Found c t B k j → Finer c (k + 1) t B (at (set s k j))
finer_more c k t B s j l F found = below_more (λ i. Found c t B i (at (set s k j) i)) k
    (λ i m. let ne : i ≢ k = omega arith in subst (Found c t B i) (sym (get_or-set_other s k i j 0 ne)) (F i m))
    (subst (Found c t B k) (sym (get_or-set_same s k j 0 l)) found)

module _ (c k : ℕ) (t : List ℕ) (S : Inside c k t) (B D : ℕ → ℕ) (P : Blocks c k t B) (Q : Finer c k t B D) where
  other_told : (column least : ℕ → ℕ) → Columns c column least → (i j : ℕ) → i < k → j < k → Other c t B i j → Told (leads column t) (shown t) i j
  other_told column least C i j l m (inl e) = P.told column least C i j l m e
  other_told column least C i j l m (inr (inl e)) = ([], tt, e)
  other_told column least C i j l m (inr (inr (a, h, e))) =
      let w = P.told column least C (cell t i a) (cell t j a) (S.cells i l a h) (S.cells j m a h) e in (
        least a ∷ w.0,
        (C.byte a h, w.1),
        λ q. w.2 (
            ap (λ z. shown t (run (leads column t) (cell t i z) w.0)) (sym (C.back a h)) ∙ q
            ∙ ap (λ z. shown t (run (leads column t) (cell t j z) w.0)) (C.back a h)),
      )

  other_like : (i j l : ℕ) → Same c t B i l → Other c t B i j → Other c t B l j
  other_like i j l s (inl e) = inl (λ h. e (s.old ∙ h))
  other_like i j l s (inr (inl e)) = inr (inl (λ h. e (s.shows ∙ h)))
  other_like i j l s (inr (inr (a, m, e))) = inr (inr (a, m, λ h. e (s.on a m ∙ h)))

  pub blocks_more : Blocks c k t D
  blocks_more = record {
    low = λ i l. (Q i l).low;
    told = λ column least C i j l m e. cases column least C i j l m e (cases_order (D i) (D j));
  }
    where
      back : (column : ℕ → ℕ) (i j : ℕ) → Told (leads column t) (shown t) i j → Told (leads column t) (shown t) j i
      back column i j (x, ok, e) = (x, ok, λ h. e (sym h))

      cases : (column least : ℕ → ℕ) → Columns c column least → (i j : ℕ) → i < k → j < k → (D i ≡ D j → ⊥) → (D i ≡ D j) ⊎ ((D i < D j) ⊎ (D j < D i)) → Told (leads column t) (shown t) i j
      cases column least C i j l m e (inl d) = absurd (e d)
      cases column least C i j l m e (inr (inl s)) =
          other_told column least C i j l m (other_like (D i) j i (Q i l).same ((Q j m).least (D i) s))
      cases column least C i j l m e (inr (inr s)) =
          back column j i (other_told column least C j i m l (other_like (D j) i j (Q j m).same ((Q i l).least (D j) s)))

  -- a round never goes back: the blocks' least rows only grow
  pub blocks_grow : (i : ℕ) → i < k → B i ≤ D i
  blocks_grow i l = omega (arith, (Q i l).same.old, P.low (D i) (omega (arith, (Q i l).low)))

-- a round that changes nothing is the last
module _ (c k : ℕ) (t : List ℕ) (S : Inside c k t) (B : ℕ → ℕ) (P : Blocks c k t B) (Q : Finer c k t B B) where
  like : (column least : ℕ → ℕ) → Columns c column least → (i j : ℕ) → i < k → j < k → B i ≡ B j → (x : Word) → Bytes x → shown t (run (leads column t) i x) ≡ shown t (run (leads column t) j x)
  like column least C i j l m e [] ok = sym (Q i l).same.shows ∙ ap (shown t) e ∙ (Q j m).same.shows
  like column least C i j l m e (b ∷ x) ok =
      let h = C.within b ok.0 in
      like column least C (cell t i (column b)) (cell t j (column b)) (S.cells i l (column b) h) (S.cells j m (column b) h)
      (sym ((Q i l).same.on (column b) h) ∙ ap (λ z. B (cell t z (column b))) e ∙ (Q j m).same.on (column b) h) x ok.1

  pub refined : Refined c k t B
  refined = record {
    low = P.low;
    again = λ i l. (Q i l).same.old;
    like = like;
    same = λ column least C i j l m s. ⊎_elim (λ (e : B i ≡ B j). e)
        (λ (n : B i ≡ B j → ⊥). let w = P.told column least C i j l m n in absurd (w.2 (s w.0 w.1)))
        (cases_eq (B i) (B j));
    told = P.told;
  }

-- the sum of the blocks' least rows is bounded, and each round but the last makes it larger
pub sum_small : (k : ℕ) (s : List ℕ) → length s ≡ k → ((i : ℕ) → i < k → get_or s i 0 ≤ i) → sum s ≤ k * k
sum_small k s e low = subst (λ n. sum s ≤ n * k) e (sum_by-le (λ x. x) k s (λ i d l. omega (arith, low i (omega arith), get_or_default s i d 0 l)))

pub sum_grows : (s u : List ℕ) → length s ≡ length u → ((i : ℕ) → i < length s → get_or s i 0 ≤ get_or u i 0) → (s ≡ u) ⊎ (sum s < sum u)
sum_grows [] [] e h = inl refl
sum_grows [] (y ∷ u) e h = absurd (omega arith)
sum_grows (x ∷ s) [] e h = absurd (omega arith)
sum_grows (x ∷ s) (y ∷ u) e h = ⊎_elim
    (λ (d : s ≡ u). ⊎_elim (λ (q : x ≡ y). inl (ap (λ z. z ∷ s) q ∙ ap (λ z. y ∷ z) d)) (λ (n : x ≡ y → ⊥). inr (omega (arith, h 0 (omega arith), ap sum d, sum_by-cons (λ z. z) x s, sum_by-cons (λ z. z) y u))) (cases_eq x y))
    (λ (d : sum s < sum u). inr (omega (arith, h 0 (omega arith), sum_by-cons (λ z. z) x s, sum_by-cons (λ z. z) y u)))
    (sum_grows s u (omega arith) (λ i l. h (suc i) (omega arith)))
