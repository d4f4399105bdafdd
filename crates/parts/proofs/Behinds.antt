-- What stands behind the fronts of a word that are in a language, as a set of live rows. Assumes nothing.
--   Split w             a word is empty, or a word with one byte behind it
--   Rows L w r          row r, if it isn't the dead one, is that of something that stands behind a front of w in L
--   SetOf L w ws       the set ws is those rows
use Rattle.std.proofs.Common.{◌≡◌, ℕ, ◌*◌, ◌/◌, ◌<◌, ◌≤◌, Bool, true, false, cond, ◌⊎◌, ◌↔◌, List, [], ◌∷◌, ◌++◌, length, replicate, Some, Option, sym, refl, ap, ◌∙◌, subst, inl, inr, ⊎_elim, arith}
use Rattle.std.proofs.lemmas.List.{append-nil, append_assoc, same_from_push, length-replicate}
use Rattle.std.proofs.lemmas.Bool.{both_ways}
use Rattle.machines.specs.Words.{Word, Bytes}
use Rattle.machines.specs.Machines.{run}
use Rattle.machines.specs.Columns.{Columns, cell, shown, leads}
use Rattle.machines.specs.Systems.{Key, reach}
use Rattle.machines.proofs.Codes.{run_push, bytes_append, bytes_push}
use Rattle.machines.proofs.Pieces.{run_append}
use Rattle.machines.proofs.Firsts.{numbered_below}
use Rattle.refinement.specs.DeadRows.{DeadRow}
use Rattle.subsets.specs.Sets.{has, add_live, moved, accepts, marks}
use Rattle.subsets.proofs.Moves.{length_moved, length_marks, accepts_to}
use Rattle.subsets.proofs.SetBits.{has_none, live_in, live_old, live_new, moved_from, moved_to, Small, small_live, small_none, small_moved, accepts_from, sets_same}
use Rattle.patterns.specs.Patterns.{Pattern, matches}
use Rattle.patterns.specs.Residuals.{Language, Of, SameResidual}
use Rattle.patterns.specs.Sizes.{Behind, Alive, SameBehind}
use Rattle.patterns.specs.Searching.{bit}
use Rattle.parts.specs.Steps.{Finished}
use Rattle.parts.proofs.Keyed.{bit_true, both_true, finished_rows}

-- words from the right
pub data Split : Word → Type 0 where
  at_start : Split []
  pushed : (y : Word) (b : ℕ) → Split (y ++ b ∷ [])

pub split : (w : Word) → Split w
split [] = at_start
split (x ∷ w) = on x w (split w)
  where
    on : (x : ℕ) (w : Word) → Split w → Split (x ∷ w)
    on x w at_start = pushed [] x
    on x w (pushed y b) = pushed (x ∷ y) b

bytes_rest : (u v : Word) → Bytes (u ++ v) → Bytes v
bytes_rest [] v ok = ok
bytes_rest (x ∷ u) v (l, ok) = bytes_rest u v ok

behind_bytes : (L : Language) (w v : Word) → Bytes w → Behind L w v → Bytes v
behind_bytes L w v ok (u, e, l) = bytes_rest u v (subst Bytes (sym e) ok)

-- behind a longer word stand the same things with its last byte, and nothing if it is itself in the language
module _ (L : Language) (w : Word) (b : ℕ) where
  behind_push : (v : Word) → Behind L (w ++ b ∷ []) v → ((v ≡ []) × L (w ++ b ∷ [])) ⊎ ((y : Word) × (v ≡ y ++ b ∷ []) × Behind L w y)
  behind_push v (u, e, l) = by v (split v) e
    where
      by : (v : Word) → Split v → u ++ v ≡ w ++ b ∷ [] → ((v ≡ []) × L (w ++ b ∷ [])) ⊎ ((y : Word) × (v ≡ y ++ b ∷ []) × Behind L w y)
      by v at_start d = inl (refl, subst L (sym (append-nil u) ∙ d) l)
      by v (pushed y x) d = let s = same_from_push (u ++ y) w x b (append_assoc u y (x ∷ []) ∙ d) in inr (y, ap (λ z. y ++ z ∷ []) s.1, (u, s.0, l))

  behind_here : L (w ++ b ∷ []) → Behind L (w ++ b ∷ []) []
  behind_here l = (w ++ b ∷ [], append-nil (w ++ b ∷ []), l)

  behind_more : (y : Word) → Behind L w y → Behind L (w ++ b ∷ []) (y ++ b ∷ [])
  behind_more y (u, e, l) = (u, sym (append_assoc u y (b ∷ [])) ∙ ap (λ z. z ++ b ∷ []) e, l)

behind_none : (L : Language) (v : Word) → Behind L [] v → (v ≡ []) × L []
behind_none L v ([], e, l) = (e, l)
behind_none L v (x ∷ u, e, l) = absurd (omega (arith, ap length e))

-- what each byte keeps holds of the key that a word leads to
pub kept_along : (next : Key → ℕ → Key) (I : Key → Word → Type 0) → ((k : Key) (w : Word) (b : ℕ) → Bytes w → b < 256 → I k w → I (next k b) (w ++ b ∷ []))
    → (w u : Word) (k : Key) → Bytes u → Bytes w → I k u → I (reach next k w) (u ++ w)
kept_along next I step [] u k a o h = subst (I k) (sym (append-nil u)) h
kept_along next I step (b ∷ w) u k a (l, o) h =
    subst (I (reach next (next k b) w)) (append_assoc u (b ∷ []) w) (kept_along next I step w (u ++ b ∷ []) (next k b) (bytes_push u b a l) o (step k u b a l h))

pub bit_cond : (b : Bool) → cond b 1 0 ≡ bit b
bit_cond true = refl
bit_cond false = refl

-- the finished table of q, and its dead row
module _ {column least : ℕ → ℕ} {c : ℕ} {q : Pattern} {n : ℕ} {t : List ℕ} {d : Option ℕ} (C : Columns c column least) (G : Finished column q n t) (D : DeadRow c n t d) where
  abbrev row : Word → ℕ
  row w = run (leads column t) 0 w

  below : (w : Word) → Bytes w → row w < n
  below w ok = numbered_below G.minimal.numbered w ok

  row_push : (w : Word) (b : ℕ) → row (w ++ b ∷ []) ≡ cell t (row w) (column b)
  row_push w b = run_push (leads column t) 0 w b

  row_of : (w : Word) → Bytes w → shown t (row w) ≡ 1 → Of q w
  row_of w ok e = bit_true (matches q w) (sym (G.minimal.gives w ok) ∙ e)

  of_row : (w : Word) → Bytes w → Of q w → shown t (row w) ≡ 1
  of_row w ok e = G.minimal.gives w ok ∙ ap bit e

  dead_shows_none : (r : ℕ) → shown t r ≡ 1 → Some r ≡ d → ⊥
  dead_shows_none r e z = omega (arith, e, (D.here r (sym z)).shows)

  -- nothing leads out of the dead row
  from_live : (r b : ℕ) → b < 256 → (Some (cell t r (column b)) ≡ d → ⊥) → Some r ≡ d → ⊥
  from_live r b l ne z = ne (ap Some ((D.here r (sym z)).stays (column b) (C.within b l)) ∙ z)

  -- something can still follow exactly if the row isn't the dead one
  alive_live : (v : Word) → Bytes v → Alive (Of q) v → Some (row v) ≡ d → ⊥
  alive_live v ok (x, fine, m) z =
      let e : shown t (run (leads column t) (row v) x) ≡ 1 = ap (shown t) (sym (run_append (leads column t) 0 v x)) ∙ of_row (v ++ x) (bytes_append v x ok fine) m in
      omega (arith, D.still column least C (row v) (sym z) x fine)

  live_alive : (v : Word) → Bytes v → (Some (row v) ≡ d → ⊥) → Alive (Of q) v
  live_alive v ok ne =
      let h = D.live column least C (λ w. bit (matches q w)) G.minimal (row v) (below v ok) (λ z. ne (sym z)) in
      let e : shown t (run (leads column t) (row v) h.0) ≡ bit (matches q (v ++ h.0)) = ap (shown t) (sym (run_append (leads column t) 0 v h.0)) ∙ G.minimal.gives (v ++ h.0) (bytes_append v h.0 ok h.1) in
      (h.0, h.1, some (matches q (v ++ h.0)) (λ z. h.2 (e ∙ z)))
    where
      some : (b : Bool) → (bit b ≡ 0 → ⊥) → b ≡ true
      some true f = refl
      some false f = absurd (f refl)

  module _ (L : Language) (m : ℕ) (room : n ≤ 32 * m) where
    abbrev pub Rows : Word → ℕ → Type 0
    Rows w r = (v : Word) × Behind L w v × (row v ≡ r) × (Some r ≡ d → ⊥)

    pub record SetOf (w : Word) (ws : List ℕ) : Type 0 where
      pub long : length ws ≡ m
      pub small : Small ws
      pub from : (r : ℕ) → has ws r ≡ true → Rows w r
      pub to : (r : ℕ) → Rows w r → has ws r ≡ true

    -- row 0 is put in if there is a mark
    mark_in : (x : Bool) (ws : List ℕ) (r : ℕ) → 0 < length ws → has (marks x d ws) r ≡ true → ((x ≡ true) × (r ≡ 0) × (Some r ≡ d → ⊥)) ⊎ (has ws r ≡ true)
    mark_in true ws r l h = ⊎_elim (λ g. inl (refl, g.0, λ z. g.1 (ap Some (sym g.0) ∙ z))) (λ g. inr g) (live_in ws 0 d l r h)
    mark_in false ws r l h = inr h

    mark_old : (x : Bool) (ws : List ℕ) (r : ℕ) → 0 < length ws → has ws r ≡ true → has (marks x d ws) r ≡ true
    mark_old true ws r l h = live_old ws 0 d l r h
    mark_old false ws r l h = h

    mark_new : (x : Bool) (ws : List ℕ) (r : ℕ) → 0 < length ws → x ≡ true → r ≡ 0 → (Some r ≡ d → ⊥) → has (marks x d ws) r ≡ true
    mark_new true ws r l h e ne = ap (has (add_live ws 0 d)) e ∙ live_new ws 0 d l (λ z. ne (ap Some e ∙ z))
    mark_new false ws r l h e ne = absurd (both_ways false refl h)

    mark_small : (x : Bool) (ws : List ℕ) → Small ws → Small (marks x d ws)
    mark_small true ws s = small_live ws 0 d s
    mark_small false ws s = s

    some_words : 0 < m
    some_words = omega (arith, G.minimal.numbered.some)

    pub set_none : (x : Bool) → ((x ≡ true) ↔ L []) → SetOf [] (marks x d (replicate m 0))
    set_none x says = record {
      long = length_marks x d (replicate m 0) ∙ length-replicate m 0;
      small = mark_small x (replicate m 0) (small_none m);
      from = λ r h. ⊎_elim
          (λ g. ([], ([], refl, says.0 g.0), sym g.1, g.2))
          (λ g. absurd (both_ways (has (replicate m 0) r) (has_none m r) g))
          (mark_in x (replicate m 0) r l h);
      to = λ r R. let b = behind_none L R.0 R.1 in mark_new x (replicate m 0) r l (says.1 b.1) (sym R.2 ∙ ap row b.0) R.3;
    }
      where
        l : 0 < length {A = ℕ} (replicate m 0)
        l = omega (arith, length-replicate {A = ℕ} m 0, some_words)

    module _ (w : Word) (b : ℕ) (ws : List ℕ) (ok : Bytes w) (fine : b < 256) (S : SetOf w ws) where
      abbrev on : List ℕ
      on = moved t d (column b) ws m n

      within : (r : ℕ) → r < n → cell t r (column b) / 32 < m
      within r l = omega (arith, G.minimal.numbered.closed r b l fine)

      -- a row of the set leads to r
      on_from : (r : ℕ) → has on r ≡ true → (y : Word) × Behind L w y × (cell t (row y) (column b) ≡ r) × (Some r ≡ d → ⊥)
      on_from r h =
          let g = moved_from t d (column b) ws m r n within h in
          let R = S.from g.0.0 g.0.2 in
          (R.0, R.1, ap (λ z. cell t z (column b)) R.2 ∙ g.0.3, g.1)

      on_to : (y : Word) → Behind L w y → (r : ℕ) → cell t (row y) (column b) ≡ r → (Some r ≡ d → ⊥) → has on r ≡ true
      on_to y B r e ne =
          let l = below y (behind_bytes L w y ok B) in
          let live = from_live (row y) b fine (λ z. ne (ap Some (sym e) ∙ z)) in
          moved_to t d (column b) ws m r n within (row y, l, S.to (row y) (y, B, refl, live), e) ne

      pub set_more : (x : Bool) → ((x ≡ true) ↔ L (w ++ b ∷ [])) → SetOf (w ++ b ∷ []) (marks x d on)
      set_more x says = record {
        long = length_marks x d on ∙ length_moved t d (column b) ws m n;
        small = mark_small x on (small_moved t d (column b) ws m n);
        from = λ r h. ⊎_elim
            (λ g. ([], behind_here L w b (says.0 g.0), sym g.1, g.2))
            (λ g. let o = on_from r g in (o.0 ++ b ∷ [], behind_more L w b o.0 o.1, row_push o.0 b ∙ o.2, o.3))
            (mark_in x on r l h);
        to = λ r R. ⊎_elim
            (λ g. mark_new x on r l (says.1 g.1) (sym R.2 ∙ ap row g.0) R.3)
            (λ g. mark_old x on r l (on_to g.0 g.2 r (sym (row_push g.0 b) ∙ ap row (sym g.1) ∙ R.2) R.3))
            (behind_push L w b R.0 R.1);
      }
        where
          l : 0 < length on
          l = omega (arith, length_moved t d (column b) ws m n, some_words)

      -- some row that is reached accepts
      pub reached : (accepts t on n ≡ true) ↔ ((y : Word) × Behind L w y × Of q (y ++ b ∷ []))
      reached = (into, from)
        where
          into : accepts t on n ≡ true → (y : Word) × Behind L w y × Of q (y ++ b ∷ [])
          into h =
              let g = accepts_from t on n h in
              let o = on_from g.0 g.1 in
              (o.0, o.1, row_of (o.0 ++ b ∷ []) (bytes_push o.0 b (behind_bytes L w o.0 ok o.1) fine) (ap (shown t) (row_push o.0 b ∙ o.2) ∙ g.2))

          from : (y : Word) × Behind L w y × Of q (y ++ b ∷ []) → accepts t on n ≡ true
          from (y, B, h) =
              let fy = behind_bytes L w y ok B in
              let l = G.minimal.numbered.closed (row y) b (below y fy) fine in
              let e : shown t (cell t (row y) (column b)) ≡ 1 = ap (shown t) (sym (row_push y b)) ∙ of_row (y ++ b ∷ []) (bytes_push y b fy fine) h in
              accepts_to t on n (cell t (row y) (column b)) l (on_to y B (cell t (row y) (column b)) refl (dead_shows_none (cell t (row y) (column b)) e)) e

    -- some row of the set accepts
    pub accepted : (w : Word) (ws : List ℕ) → Bytes w → SetOf w ws → (accepts t ws n ≡ true) ↔ ((v : Word) × Behind L w v × Of q v)
    accepted w ws ok S = (into, from)
      where
        into : accepts t ws n ≡ true → (v : Word) × Behind L w v × Of q v
        into h =
            let g = accepts_from t ws n h in
            let R = S.from g.0 g.1 in
            (R.0, R.1, row_of R.0 (behind_bytes L w R.0 ok R.1) (ap (shown t) R.2 ∙ g.2))

        from : (v : Word) × Behind L w v × Of q v → accepts t ws n ≡ true
        from (v, B, h) =
            let fv = behind_bytes L w v ok B in
            let l = below v fv in
            let e = of_row v fv h in
            accepts_to t ws n (row v) l (S.to (row v) (v, B, refl, dead_shows_none (row v) e)) e

    -- equal sets exactly if the same things are left behind
    module _ (u v : Word) (xs ys : List ℕ) (a : Bytes u) (b : Bytes v) (X : SetOf u xs) (Y : SetOf v ys) where
      pub same_set : SameBehind L (Of q) u v → xs ≡ ys
      same_set (f, g) = sets_same xs ys (X.long ∙ sym Y.long) X.small Y.small
          (λ r _. both_true (has xs r) (has ys r) ((λ h. Y.to r (there r (X.from r h))), (λ h. X.to r (back r (Y.from r h)))))
        where
          there : (r : ℕ) → Rows u r → Rows v r
          there r (x, B, e, ne) =
              let fx = behind_bytes L u x a B in
              let h = f x B (live_alive x fx (λ z. ne (ap Some (sym e) ∙ z))) in
              (h.0, h.1, sym ((finished_rows G x h.0 fx (behind_bytes L v h.0 b h.1)).1 h.2) ∙ e, ne)

          back : (r : ℕ) → Rows v r → Rows u r
          back r (y, B, e, ne) =
              let fy = behind_bytes L v y b B in
              let h = g y B (live_alive y fy (λ z. ne (ap Some (sym e) ∙ z))) in
              (h.0, h.1, (finished_rows G h.0 y (behind_bytes L u h.0 a h.1) fy).1 h.2 ∙ e, ne)

      pub set_same : xs ≡ ys → SameBehind L (Of q) u v
      set_same e = (into, from)
        where
          into : (x : Word) → Behind L u x → Alive (Of q) x → (y : Word) × Behind L v y × SameResidual (Of q) x y
          into x B h =
              let fx = behind_bytes L u x a B in
              let R = Y.from (row x) (ap (λ z. has z (row x)) (sym e) ∙ X.to (row x) (x, B, refl, alive_live x fx h)) in
              (R.0, R.1, (finished_rows G x R.0 fx (behind_bytes L v R.0 b R.1)).0 (sym R.2))

          from : (y : Word) → Behind L v y → Alive (Of q) y → (x : Word) × Behind L u x × SameResidual (Of q) x y
          from y B h =
              let fy = behind_bytes L v y b B in
              let R = X.from (row y) (ap (λ z. has z (row y)) e ∙ Y.to (row y) (y, B, refl, alive_live y fy h)) in
              (R.0, R.1, (finished_rows G R.0 y (behind_bytes L u R.0 a R.1) fy).0 R.2)
