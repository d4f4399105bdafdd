-- Classes found one after the other: for each found word in turn and each byte in turn, what the byte leads to is looked for
-- among the found, and put behind them if it isn't there. They stand in the order of their first words, and either no more
-- than n are found or n + 1 words of which no two are related. Assumes nothing.
use Rattle.std.proofs.Common.{◌≡◌, ℕ, zero, suc, ◌+◌, ◌-◌, ◌*◌, ◌<◌, ◌≤◌, ◌⊎◌, List, [], ◌∷◌, ◌++◌, length, refl, ap, inl, inr, ⊎_elim, arith}
use mathlib.Core.Option.{some}
use Rattle.std.proofs.lemmas.List.{append_assoc, append-nil, length_push}
use Rattle.std.proofs.lemmas.Bool.{cases_lt}
use Rattle.machines.specs.Words.{Word, Bytes}
use Rattle.machines.specs.Classes.{Classes, nth}
use Rattle.machines.specs.Minimal.{code}
use Rattle.machines.specs.Laws.{Congruence, Apart, AtMost, MoreThan}
use Rattle.machines.proofs.Codes.{bytes_push, code_push, less_code, code_less}
use Rattle.machines.proofs.Places.{Pushed, none_some, nth_at, nth_below, nth_one, nth_front, nth_last, nth_push}

-- a found word that is related to w and no later
abbrev Known : (Word → Word → Type 0) → List Word → Word → Type 0
Known E ws w = (l : ℕ) × (v : Word) × (nth ws l ≡ some v) × E v w × (code 0 v ≤ code 0 w)

-- the words found when the bytes below b are done at word i, and all bytes at the words before
record Found (E : Word → Word → Type 0) (ws : List Word) (i b : ℕ) : Type 0 where
  start : nth ws 0 ≡ some []
  apart : Apart E ws
  order : (k l : ℕ) (u v : Word) → nth ws k ≡ some u → nth ws l ≡ some v → k < l → code 0 u < code 0 v
  known : (k d : ℕ) (u : Word) → nth ws k ≡ some u → d < 256 → 257 * k + d < 257 * i + b → Known E ws (u ++ d ∷ [])
  below : (u v : Word) (k : ℕ) → nth ws i ≡ some u → nth ws k ≡ some v → code 0 v < 256 * code 0 u + (1 + b)

known_more : (E : Word → Word → Type 0) (ws : List Word) (x w : Word) → Known E ws w → Known E (ws ++ x ∷ []) w
known_more E ws x w (l, v, n, e, c) = (l, v, nth_front ws (x ∷ []) l v n, e, c)

alone : (k : ℕ) (u : Word) → nth ([] ∷ []) k ≡ some u → (k ≡ 0) × (u ≡ [])
alone zero u m = (refl, cc)
alone (suc k) u m = absurd (none_some u m)

found_start : (E : Word → Word → Type 0) → Found E ([] ∷ []) 0 0
found_start E = record {
  start = refl;
  apart = record {
    bytes = λ k u m. rw (alone k u m).1 tt;
    differ = λ k l u v m n s e. absurd (omega (arith, (alone k u m).0, (alone l v n).0));
  };
  order = λ k l u v m n s. absurd (omega (arith, (alone k u m).0, (alone l v n).0));
  known = λ k d u m l h. absurd (omega (arith, (alone k u m).0));
  below = λ u v k m n. rw ((alone k v n).1, (alone 0 u m).1) (omega arith);
}

module _ {E : Word → Word → Type 0} {ws : List Word} {i b : ℕ} (R : Congruence E) (u : Word) (at : nth ws i ≡ some u) (small : b < 256) (S : Found E ws i b) where
  -- a place that is done now was done before, or is this one
  place : (k d : ℕ) → d < 256 → 257 * k + d < 257 * i + suc b → (257 * k + d < 257 * i + b) ⊎ ((k ≡ i) × (d ≡ b))
  place k d s h = ⊎_elim (λ l. inl l) (λ (l : 257 * i + b ≤ 257 * k + d). inr (omega arith, omega arith)) (cases_lt (257 * k + d) (257 * i + b))

  -- what the byte leads to is there
  found_old : (l : ℕ) (v : Word) → nth ws l ≡ some v → E v (u ++ b ∷ []) → Found E ws i (suc b)
  found_old l v n e = record {
    start = S.start;
    apart = S.apart;
    order = S.order;
    known = λ k d x m s h. ⊎_elim
        (λ o. S.known k d x m s o)
        (λ (p, q). let same : x ≡ u = nth_one ws i x u (rw p at m) at in
        rw (same, q) (l, v, n, e, omega (arith, code_push 0 u b, S.below u v l at n)))
        (place k d s h);
    below = λ x y k m o. omega (arith, ap (code 0) (nth_one ws i x u m at), S.below u y k at o);
  }

  -- it isn't there
  found_new : ((l : ℕ) (v : Word) → nth ws l ≡ some v → E v (u ++ b ∷ []) → ⊥) → Found E (ws ++ (u ++ b ∷ []) ∷ []) i (suc b)
  found_new fresh = record {
    start = nth_front ws (w ∷ []) 0 [] S.start;
    apart = record {
      bytes = λ k x m. ⊎_elim (λ a. S.apart.bytes k x a) (λ a. rw (← a.1) (bytes_push u b (S.apart.bytes i u at) small)) (nth_push ws w k x m);
      differ = λ k l x y m n s. differ k l x y s (nth_push ws w k x m) (nth_push ws w l y n);
    };
    order = λ k l x y m n s. order k l x y s (nth_push ws w k x m) (nth_push ws w l y n);
    known = λ k d x m s h. known k d x s (nth_push ws w k x m) (place k d s h);
    below = λ x y k m n. below x y k (nth_push ws w k y n) (nth_one (ws ++ w ∷ []) i x u m (nth_front ws (w ∷ []) i u at));
  }
    where
      w : Word
      w = u ++ b ∷ []

      coded : code 0 w ≡ 256 * code 0 u + (1 + b)
      coded = code_push 0 u b

      within : i < length ws
      within = nth_below ws i u at

      order : (k l : ℕ) (x y : Word) → k < l → Pushed ws w k x → Pushed ws w l y → code 0 x < code 0 y
      order k l x y s (inl m) (inl n) = S.order k l x y m n s
      order k l x y s (inl m) (inr n) = rw (← n.1) (omega (arith, coded, S.below u x k at m))
      order k l x y s (inr m) (inl n) = absurd (omega (arith, nth_below ws l y n))
      order k l x y s (inr m) (inr n) = absurd (omega arith)

      differ : (k l : ℕ) (x y : Word) → k < l → Pushed ws w k x → Pushed ws w l y → E x y → ⊥
      differ k l x y s (inl m) (inl n) e = S.apart.differ k l x y m n s e
      differ k l x y s (inl m) (inr n) e = fresh k x m (rw n.1 e)
      differ k l x y s (inr m) (inl n) e = absurd (omega (arith, nth_below ws l y n))
      differ k l x y s (inr m) (inr n) e = absurd (omega arith)

      known : (k d : ℕ) (x : Word) → d < 256 → Pushed ws w k x → (257 * k + d < 257 * i + b) ⊎ ((k ≡ i) × (d ≡ b)) → Known E (ws ++ w ∷ []) (x ++ d ∷ [])
      known k d x s (inl m) (inl o) = known_more E ws w (x ++ d ∷ []) (S.known k d x m s o)
      known k d x s (inl m) (inr (p, q)) = let same : x ≡ u = nth_one ws i x u (rw p at m) at in
          rw (same, q) (length ws, w, nth_last ws w, R.same w, omega arith)
      known k d x s (inr m) (inl o) = absurd (omega (arith, within))
      known k d x s (inr m) (inr o) = absurd (omega (arith, within))

      below : (x y : Word) (k : ℕ) → Pushed ws w k y → x ≡ u → code 0 y < 256 * code 0 x + (1 + suc b)
      below x y k (inl n) e = omega (arith, ap (code 0) e, S.below u y k at n)
      below x y k (inr n) e = omega (arith, ap (code 0) e, ap (code 0) n.1, coded)

-- all bytes are done at word i
found_row : {E : Word → Word → Type 0} {ws : List Word} {i : ℕ} → i < length ws → Found E ws i 256 → Found E ws (suc i) 0
found_row {ws = ws} {i = i} within S = record {
  start = S.start;
  apart = S.apart;
  order = S.order;
  known = λ k d u m s h. S.known k d u m s (omega arith);
  below = λ x y k m n.
      let u = nth_at ws i within in
      omega (arith, S.below u.0 y k u.1 n, S.order i (suc i) u.0 x u.1 m (omega arith));
}

-- all words are done
module _ {E : Word → Word → Type 0} {ws : List Word} {i b : ℕ} (R : Congruence E) (done : length ws ≤ i) (S : Found E ws i b) where
  known_step : (w : Word) (d : ℕ) → d < 256 → Known E ws w → Known E ws (w ++ d ∷ [])
  known_step w d s (k, v, m, e, c) =
      let n = S.known k d v m s (omega (arith, nth_below ws k v m)) in
      (n.0, n.1, n.2, R.on n.1 (v ++ d ∷ []) (w ++ d ∷ []) n.3 (R.push v w d s e), omega (arith, n.4, code_push 0 v d, code_push 0 w d))

  known_run : (x w : Word) → Bytes w → Known E ws x → Known E ws (x ++ w)
  known_run x [] ok h = rw append-nil h
  known_run x (d ∷ w) (s, ok) h = rw append_assoc at (known_run (x ++ d ∷ []) w ok (known_step x d s h))

  known_all : (w : Word) → Bytes w → Known E ws w
  known_all w ok = known_run [] w ok (0, [], S.start, R.same [], omega arith)

  only : (k l : ℕ) (u v : Word) → nth ws k ≡ some u → nth ws l ≡ some v → E u v → k ≡ l
  only k l u v m n e =
      ⊎_elim (λ s. absurd (S.apart.differ k l u v m n s e))
      (λ (s : l ≤ k). ⊎_elim (λ t. absurd (S.apart.differ l k v u n m t (R.back u v e))) (λ (t : k ≤ l). omega arith) (cases_lt l k))
      (cases_lt k l)

  found_all : Classes E ws
  found_all = record {
    bytes = S.apart.bytes;
    order = λ k l u v m n s. code_less u v (S.order k l u v m n s) (S.apart.bytes l v n);
    first = λ k u v m ok l e.
        let h = known_all v ok in
        let same : h.0 ≡ k = only h.0 k h.1 u h.2 m (R.on h.1 v u h.3 (R.back u v e)) in
        let it : h.1 ≡ u = nth_one ws k h.1 u (rw same at h.2) m in
        omega (arith, less_code 0 l ok, h.4, ap (code 0) it);
    differ = only;
    all = λ w ok. let h = known_all w ok in (h.0, h.1, h.2, h.3);
  }

module _ {E : Word → Word → Type 0} (R : Congruence E) (decide : (u v : Word) → Bytes u → Bytes v → E u v ⊎ (E u v → ⊥)) where
  look : (ws : List Word) (w : Word) → ((l : ℕ) (v : Word) → nth ws l ≡ some v → Bytes v) → Bytes w
      → ((l : ℕ) × (v : Word) × (nth ws l ≡ some v) × E v w) ⊎ ((l : ℕ) (v : Word) → nth ws l ≡ some v → E v w → ⊥)
  look [] w fine ok = inr (λ l v m e. none_some v m)
  look (x ∷ ws) w fine ok = ⊎_elim
      (λ e. inl (0, x, refl, e))
      (λ ne. ⊎_elim (λ (l, v, m, e). inl (suc l, v, m, e)) (λ far. inr (neither ne far)) (look ws w (λ l. fine (suc l)) ok))
      (decide x w (fine 0 x refl) ok)
    where
      neither : (E x w → ⊥) → ((l : ℕ) (v : Word) → nth ws l ≡ some v → E v w → ⊥) → (l : ℕ) (v : Word) → nth (x ∷ ws) l ≡ some v → E v w → ⊥
      neither ne far zero v m e = let same : x ≡ v = cc in ne (rw same e)
      neither ne far (suc l) v m e = far l v m e

  -- a search among at most n words, and one that has less left to do
  record Search (n : ℕ) (ws : List Word) (i b : ℕ) : Type 0 where
    found : Found E ws i b
    inside : i ≤ length ws
    few : length ws ≤ n
    byte : b ≤ 256

  abbrev On : ℕ → ℕ → Type 0
  On n left = (ws : List Word) × (i : ℕ) × (b : ℕ) × Search n ws i b × (257 * (n - i) + (256 - b) < left)

  module _ {n : ℕ} {ws : List Word} {i b : ℕ} (S : Search n ws i b) (here : i < length ws) where
    -- one more byte at word i
    byte_turn : b < 256 → On n (257 * (n - i) + (256 - b)) ⊎ MoreThan n E
    byte_turn small = ⊎_elim old new (look ws w S.found.apart.bytes (bytes_push u b (S.found.apart.bytes i u at) small))
      where
        u : Word
        u = (nth_at ws i here).0

        at : nth ws i ≡ some u
        at = (nth_at ws i here).1

        w : Word
        w = u ++ b ∷ []

        old : (l : ℕ) × (v : Word) × (nth ws l ≡ some v) × E v w → On n (257 * (n - i) + (256 - b)) ⊎ MoreThan n E
        old (l, v, m, e) = inl (ws, i, suc b, record { found = found_old R u at small S.found l v m e; inside = S.inside; few = S.few; byte = omega arith }, omega arith)

        new : ((l : ℕ) (v : Word) → nth ws l ≡ some v → E v w → ⊥) → On n (257 * (n - i) + (256 - b)) ⊎ MoreThan n E
        new fresh =
            let more = found_new R u at small S.found fresh in
            let long = length_push ws w in
            ⊎_elim
            (λ (room : length ws < n). inl (ws ++ w ∷ [], i, suc b, record { found = more; inside = omega arith; few = omega arith; byte = omega arith }, omega arith))
            (λ (full : n ≤ length ws). inr (ws ++ w ∷ [], omega (arith, S.few), more.apart))
            (cases_lt (length ws) n)

    -- the next word
    row_turn : b ≡ 256 → On n (257 * (n - i) + (256 - b))
    row_turn last =
        (ws, suc i, 0, record { found = found_row here (rw last at S.found); inside = omega arith; few = S.few; byte = omega arith }, omega arith)

    turn : On n (257 * (n - i) + (256 - b)) ⊎ MoreThan n E
    turn = ⊎_elim byte_turn (λ (all : 256 ≤ b). inl (row_turn (omega (arith, S.byte)))) (cases_lt b 256)

  search_on : (n fuel : ℕ) {ws : List Word} {i b : ℕ} → Search n ws i b → 257 * (n - i) + (256 - b) < fuel → AtMost n E ⊎ MoreThan n E
  search_on n zero S enough = absurd (omega arith)
  search_on n (suc fuel) {ws = ws} {i = i} S enough = ⊎_elim
      (λ (here : i < length ws). ⊎_elim (λ (vs, j, d, T, less). search_on n fuel T (omega arith)) (λ many. inr many) (turn S here))
      (λ (done : length ws ≤ i). inl (ws, found_all R done S.found, S.few))
      (cases_lt i (length ws))

  -- what can be decided has at most n classes, or there are n + 1 words of which no two are related
  pub finite : (n : ℕ) → AtMost n E ⊎ MoreThan n E
  finite zero = inr ([] ∷ [], refl, (found_start E).apart)
  finite (suc n) = search_on (suc n) (257 * suc n + 257) (record { found = found_start E; inside = omega arith; few = omega arith; byte = omega arith }) (omega arith)
