-- Blocks numbered by their least rows, and the machine of the blocks: it is the least one. Assumes nothing.
use Rattle.std.proofs.Common.{◌≡◌, ℕ, ◌+◌, ◌*◌, ◌<◌, ◌≤◌, ◌≢◌, List, [], ◌∷◌, length, take, set, sym, refl, ap, ◌∙◌, subst, ⊎_elim, arith, get_or-set_other, get_or-set_same, below_more}
use Rattle.std.proofs.lemmas.List.{get_or-take}
use Rattle.std.proofs.lemmas.Bool.{cases_eq, cases_order}
use Rattle.machines.specs.Words.{Word, Bytes}
use Rattle.machines.specs.Machines.{run}
use Rattle.machines.specs.Columns.{Columns, cell, shown, leads}
use Rattle.machines.specs.Minimal.{code, Told, Gives, First, Numbered, Minimal}
use Rattle.machines.specs.Inside.{Inside}
use Rattle.refinement.specs.Refining.{at, Refined}
use Rattle.refinement.specs.Joining.{Firsts, Numbering, Image, Joined}

two : (k : ℕ) (A : ℕ → ℕ → Type 0) → ((i j : ℕ) → i < k → j < k → A i j) → ((i : ℕ) → i < k → A i k) → ((j : ℕ) → j < k → A k j) → A k k → (i j : ℕ) → i < k + 1 → j < k + 1 → A i j
two k A a b c d i j l m = below_more (λ i. A i j) k (λ i l. below_more (A i) k (λ j m. a i j l m) (b i l) j m) (below_more (A k) k c d j m) i l

module _ (K : ℕ) (B : ℕ → ℕ) (F : Firsts K B) (k n : ℕ) (s : List ℕ) (in_rows : k < K) (in_List : k < length s) (M : Numbering k n B (at s)) where
  kept : (v i : ℕ) → i < k → at (set s k v) i ≡ at s i
  kept v i l = let ne : i ≢ k = omega arith in get_or-set_other s k i v 0 ne

  put : (v : ℕ) → at (set s k v) k ≡ v
  put v = get_or-set_same s k v 0 in_List

  pub numbering_new : B k ≡ k → Numbering (k + 1) (n + 1) B (at (set s k n))
  numbering_new e = record {
    few = omega (arith, M.few);
    within = below_more (λ i. N i < n + 1) k (λ i l. omega (arith, M.within i l, kept n i l)) (omega (arith, put n));
    same = two k (λ i j. B i ≡ B j → N i ≡ N j) (λ i j l m d. kept n i l ∙ M.same i j l m d ∙ sym (kept n j m))
        (λ i l d. absurd (omega (arith, F.low i (omega arith)))) (λ j m d. absurd (omega (arith, F.low j (omega arith)))) (λ _. refl);
    told = two k (λ i j. N i ≡ N j → B i ≡ B j) (λ i j l m d. M.told i j l m (sym (kept n i l) ∙ d ∙ kept n j m))
        (λ i l d. absurd (omega (arith, M.within i l, kept n i l, put n))) (λ j m d. absurd (omega (arith, M.within j m, kept n j m, put n))) (λ _. refl);
    some = below_more (λ a. (i : ℕ) × (i < k + 1) × (N i ≡ a) × (B i ≡ i)) n
        (λ a l. let h = M.some a l in (h.0, omega (arith, h.1), kept n h.0 h.1 ∙ h.2, h.3))
        (k, omega arith, put n, e);
    up = λ i j l m. two k (λ i j. i < j → B i ≡ i → B j ≡ j → N i < N j) (λ i j a b l d c. omega (arith, M.up i j l b d c, kept n i a, kept n j b))
        (λ i a l d c. omega (arith, M.within i a, kept n i a, put n)) (λ j b l d c. absurd (omega arith)) (λ l d c. absurd (omega arith)) i j (omega arith) m l;
  }
    where
      N : ℕ → ℕ
      N i = at (set s k n) i

  pub numbering_old : (B k ≡ k → ⊥) → Numbering (k + 1) n B (at (set s k (at s (B k))))
  numbering_old ne = record {
    few = omega (arith, M.few);
    within = below_more (λ i. N i < n) k (λ i l. omega (arith, M.within i l, kept v i l)) (omega (arith, put v, M.within (B k) low));
    same = two k (λ i j. B i ≡ B j → N i ≡ N j) (λ i j l m d. kept v i l ∙ M.same i j l m d ∙ sym (kept v j m))
        (λ i l d. kept v i l ∙ M.same i (B k) l low (d ∙ sym again) ∙ sym (put v))
        (λ j m d. put v ∙ M.same (B k) j low m (again ∙ d) ∙ sym (kept v j m)) (λ _. refl);
    told = two k (λ i j. N i ≡ N j → B i ≡ B j) (λ i j l m d. M.told i j l m (sym (kept v i l) ∙ d ∙ kept v j m))
        (λ i l d. M.told i (B k) l low (sym (kept v i l) ∙ d ∙ put v) ∙ again)
        (λ j m d. sym again ∙ M.told (B k) j low m (sym (put v) ∙ d ∙ kept v j m)) (λ _. refl);
    some = λ a l. let h = M.some a l in (h.0, omega (arith, h.1), kept v h.0 h.1 ∙ h.2, h.3);
    up = λ i j l m. two k (λ i j. i < j → B i ≡ i → B j ≡ j → N i < N j) (λ i j a b l d c. omega (arith, M.up i j l b d c, kept v i a, kept v j b))
        (λ i a l d c. absurd (ne c)) (λ j b l d c. absurd (omega arith)) (λ l d c. absurd (omega arith)) i j (omega arith) m l;
  }
    where
      v : ℕ
      v = at s (B k)

      N : ℕ → ℕ
      N i = at (set s k v) i

      low : B k < k
      low = omega (arith, F.low k in_rows, ne)

      again : B (B k) ≡ B k
      again = F.again k in_rows

-- the machine of the blocks: B the blocks of one machine's rows, N their numbers, which are the other's rows
module _ (k n : ℕ) (go stay : ℕ → ℕ → ℕ) (show tell : ℕ → ℕ) (B N : ℕ → ℕ) (T : Numbered k go) (M : Numbering k n B N)
    (low : (i : ℕ) → i < k → B i ≤ i) (apart : (i j : ℕ) → i < k → j < k → (B i ≡ B j → ⊥) → Told go show i j)
    (shows : (i : ℕ) → i < k → tell (N i) ≡ show i) (on : (i : ℕ) → i < k → (b : ℕ) → b < 256 → stay (N i) b ≡ N (go i b)) where
  zero_first : N 0 ≡ 0
  zero_first =
      let h = M.some 0 (omega (arith, M.within 0 T.some)) in
      ⊎_elim (λ (e : h.0 ≡ 0). subst (λ z. N z ≡ 0) e h.2)
      (λ (ne : h.0 ≡ 0 → ⊥). absurd (omega (arith, M.up 0 h.0 (omega (arith, ne)) h.1 (omega (arith, low 0 T.some)) h.3, h.2)))
      (cases_eq h.0 0)

  run_in : (x : Word) (i : ℕ) → i < k → Bytes x → run go i x < k
  run_in [] i l ok = l
  run_in (b ∷ x) i l (m, ok) = run_in x (go i b) (T.closed i b l m) ok

  run_on : (x : Word) (i : ℕ) → i < k → Bytes x → run stay (N i) x ≡ N (run go i x)
  run_on [] i l ok = refl
  run_on (b ∷ x) i l (m, ok) = ap (λ z. run stay z x) (on i l b m) ∙ run_on x (go i b) (T.closed i b l m) ok

  run_from : (w : Word) → Bytes w → run stay 0 w ≡ N (run go 0 w)
  run_from w ok = ap (λ z. run stay z w) (sym zero_first) ∙ run_on w 0 T.some ok

  tell_on : (x : Word) (i : ℕ) → i < k → Bytes x → tell (run stay (N i) x) ≡ show (run go i x)
  tell_on x i l ok = ap tell (run_on x i l ok) ∙ shows (run go i x) (run_in x i l ok)

  -- the first word of a block's least row is the block's first word
  first_of : (i : ℕ) (w : Word) → i < k → B i ≡ i → First go i w → First stay (N i) w
  first_of i w l e F = record {
    bytes = F.bytes;
    comes = run_from w F.bytes ∙ ap N F.comes;
    least = λ v ok d.
        let j = run go 0 v in
        let m = run_in v 0 T.some ok in
        let b : B j ≡ B i = M.told j i m l (sym (run_from v ok) ∙ d) in
        let G = T.first j m in
        ⊎_elim (λ (h : i ≡ j). F.least v ok (sym h))
        (λ (h : i ≡ j → ⊥). omega (arith, T.order i j w G.0 (omega (arith, low j m, b, e, h)) m F G.1, G.1.least v ok refl))
        (cases_eq i j);
  }

  -- a is the number of a block
  abbrev Named : ℕ → Type 0
  Named a = (i : ℕ) × (i < k) × (N i ≡ a) × (B i ≡ i)

  numbered : Numbered n stay
  numbered = record {
    some = omega (arith, M.within 0 T.some);
    closed = λ a b l m.
        let h = M.some a l in
        subst (λ z. stay z b < n) h.2 (omega (arith, on h.0 h.1 b m, M.within (go h.0 b) (T.closed h.0 b h.1 m)));
    first = λ a l.
        let h = M.some a l in
        let F = T.first h.0 h.1 in
        (F.0, subst (λ z. First stay z F.0) h.2 (first_of h.0 F.0 h.1 h.3 F.1));
    order = λ a c x y l m X Y. order a c x y l X Y (M.some a (omega arith)) (M.some c m);
  }
    where
      order : (a c : ℕ) (x y : Word) → a < c → First stay a x → First stay c y → Named a → Named c → code 0 x < code 0 y
      order a c x y l X Y (i, li, ni, bi) (j, lj, nj, bj) =
          let F = T.first i li in
          let G = T.first j lj in
          let f = first_of i F.0 li bi F.1 in
          let g = first_of j G.0 lj bj G.1 in
          let less : i < j = ⊎_elim (λ (h : i ≡ j). absurd (omega (arith, ap N h))) (⊎_elim (λ (h : i < j). h) (λ (h : j < i). absurd (omega (arith, M.up j i h li bj bi)))) (cases_order i j) in
          omega (arith, T.order i j F.0 G.0 less lj F.1 G.1, X.least F.0 f.bytes (f.comes ∙ ni), g.least y Y.bytes (Y.comes ∙ sym nj))

  told : (a c : ℕ) → a < n → c < n → (a ≡ c → ⊥) → Told stay tell a c
  told a c l m ne = pick (M.some a l) (M.some c m)
    where
      pick : Named a → Named c → Told stay tell a c
      pick (i, li, ni, bi) (j, lj, nj, bj) =
          let w = apart i j li lj (λ e. ne (sym ni ∙ M.same i j li lj e ∙ nj)) in (
            w.0,
            w.1,
            λ e. w.2 (
                sym (tell_on w.0 i li w.1) ∙ ap (λ z. tell (run stay z w.0)) ni ∙ e
                ∙ ap (λ z. tell (run stay z w.0)) (sym nj) ∙ tell_on w.0 j lj w.1),
          )

  pub minimal : (f : Word → ℕ) → Gives f go show → Minimal f n stay tell
  minimal f gives = record {
    numbered = numbered;
    gives = λ w ok. ap tell (run_from w ok) ∙ shows (run go 0 w) (run_in w 0 T.some ok) ∙ gives w ok;
    told = told;
  }

-- the same of tables
module _ (c k n : ℕ) (t u : List ℕ) (B N : ℕ → ℕ) (S : Inside c k t) (R : Refined c k t B) (M : Numbering k n B N) (room : 257 * k ≤ length u)
    (I : (i : ℕ) → i < k → B i ≡ i → Image c t u N i) where
  block_in : (i : ℕ) → i < k → B i < k
  block_in i l = omega (arith, R.low i l)

  block_name : (i : ℕ) → i < k → N (B i) ≡ N i
  block_name i l = M.same (B i) i (block_in i l) l (R.again i l)

  module _ (column least : ℕ → ℕ) (C : Columns c column least) where
    shows_all : (i : ℕ) → i < k → shown u (N i) ≡ shown t i
    shows_all i l =
        ap (shown u) (sym (block_name i l)) ∙ (I (B i) (block_in i l) (R.again i l)).shows
        ∙ R.like column least C (B i) i (block_in i l) l (R.again i l) [] tt

    on_all : (i : ℕ) → i < k → (b : ℕ) → b < 256 → leads column u (N i) b ≡ N (leads column t i b)
    on_all i l b m =
        let a = C.within b m in
        let e : B (leads column t (B i) b) ≡ B (leads column t i b) = R.same column least C _ _ (S.cells (B i) (block_in i l) (column b) a) (S.cells i l (column b) a)
        (λ x ok. R.like column least C (B i) i (block_in i l) l (R.again i l) (b ∷ x) (m, ok)) in
        ap (λ z. leads column u z b) (sym (block_name i l)) ∙ (I (B i) (block_in i l) (R.again i l)).on (column b) a
        ∙ M.same _ _ (S.cells (B i) (block_in i l) (column b) a) (S.cells i l (column b) a) e

  pub joined : Joined c k n t u
  joined = record {
    few = M.few;
    inside = record {
      few = S.few;
      some = omega (arith, M.within 0 S.some);
      long = omega (arith, M.few);
      cells = λ a l j m.
          let h = M.some a l in
          subst (λ z. cell u z j < n) h.2 (omega (arith, (I h.0 h.1 h.3).on j m, M.within (cell t h.0 j) (S.cells h.0 h.1 j m)));
    };
    minimal = λ column least C f T gives.
        minimal k n (leads column t) (leads column u) (shown t) (shown u) B N T M R.low (R.told column least C) (shows_all column least C) (on_all column least C) f gives;
  }

-- blocks that stand at the front of a longer list
pub refined_front : {c k n : ℕ} {t : List ℕ} (b : List ℕ) → n ≡ k → Refined c k t (at b) → Refined c k t (at (take n b))
refined_front {c} {k} {n} {t} b e R = record {
  low = λ i l. omega (arith, same i l, R.low i l);
  again = λ i l. ap D (same i l) ∙ same (at b i) (omega (arith, R.low i l)) ∙ R.again i l ∙ sym (same i l);
  like = λ column least C i j l m h. R.like column least C i j l m (sym (same i l) ∙ h ∙ same j m);
  same = λ column least C i j l m h. same i l ∙ R.same column least C i j l m h ∙ sym (same j m);
  told = λ column least C i j l m ne. R.told column least C i j l m (λ h. ne (same i l ∙ h ∙ sym (same j m)));
}
  where
    D : ℕ → ℕ
    D = at (take n b)

    same : (i : ℕ) → i < k → D i ≡ at b i
    same i l = get_or-take n b i 0 (omega arith)
