-- One after the other: a row of the first and the set of live rows of the second are what it tells apart. Assumes nothing.
--   SeqKey k w    the key k is that of the word w
use Rattle.std.proofs.Common.{◌≡◌, ℕ, ◌*◌, ◌<◌, ◌≤◌, true, ◌↔◌, List, [], ◌∷◌, ◌++◌, get_or, drop, Option, sym, refl, ap, ◌∙◌, subst}
use Rattle.std.proofs.lemmas.Bool.{eq-eqb, eqb-true}
use Rattle.machines.specs.Words.{Word, Bytes}
use Rattle.machines.specs.Machines.{run}
use Rattle.machines.specs.Columns.{Columns, cell, shown, leads}
use Rattle.machines.specs.Systems.{Key, reach}
use Rattle.machines.proofs.Codes.{run_push, bytes_push}
use Rattle.refinement.specs.DeadRows.{DeadRow}
use Rattle.subsets.specs.Sets.{accepts, marked, followed, unread, follow_shows}
use Rattle.patterns.specs.Patterns.{Pattern, seq, matches}
use Rattle.patterns.specs.Residuals.{Of}
use Rattle.patterns.specs.Searching.{bit}
use Rattle.patterns.proofs.Cutting.{meaning}
use Rattle.parts.specs.Steps.{Finished}
use Rattle.parts.proofs.Keyed.{Keyed, bit_true, both_true, finished_rows}
use Rattle.parts.proofs.Behinds.{kept_along, bit_cond, SetOf, set_none, set_more, accepted, same_set, set_same}

-- a key is its first number and the rest
pub key_same : (k l : Key) → k ≡ get_or k 0 0 ∷ drop 1 k → l ≡ get_or l 0 0 ∷ drop 1 l → get_or k 0 0 ≡ get_or l 0 0 → drop 1 k ≡ drop 1 l → k ≡ l
key_same k l a b e f = a ∙ ap (λ z. z ∷ drop 1 k) e ∙ ap (λ z. get_or l 0 0 ∷ z) f ∙ sym b

module _ {column least : ℕ → ℕ} {c : ℕ} {p q : Pattern} {l n : ℕ} {s t : List ℕ} {d : Option ℕ} (m : ℕ) (C : Columns c column least) (F : Finished column p l s)
    (G : Finished column q n t) (D : DeadRow c n t d) (room : n ≤ 32 * m) where
  abbrev next : Key → ℕ → Key
  next k b = followed s t d m n k (column b)

  pub record SeqKey (k : Key) (w : Word) : Type 0 where
    pub shape : k ≡ get_or k 0 0 ∷ drop 1 k
    pub head : get_or k 0 0 ≡ run (leads column s) 0 w
    pub rest : SetOf C G D (Of p) m room w (drop 1 k)

  mark_says : (w : Word) → Bytes w → (marked s (run (leads column s) 0 w) ≡ true) ↔ Of p w
  mark_says w ok = (
    λ h. bit_true (matches p w) (sym (F.minimal.gives w ok) ∙ eqb-true (shown s (run (leads column s) 0 w)) 1 h),
    λ h. eq-eqb (shown s (run (leads column s) 0 w)) 1 (F.minimal.gives w ok ∙ ap bit h),
  )

  seq_step : (k : Key) (w : Word) (b : ℕ) → Bytes w → b < 256 → SeqKey k w → SeqKey (next k b) (w ++ b ∷ [])
  seq_step k w b ok fine K = record {
    shape = refl;
    head = on;
    rest = set_more C G D (Of p) m room w b (drop 1 k) ok fine K.rest (marked s (cell s (get_or k 0 0) (column b)))
        (subst (λ z. (marked s z ≡ true) ↔ Of p (w ++ b ∷ [])) (sym on) (mark_says (w ++ b ∷ []) (bytes_push w b ok fine)));
  }
    where
      on : cell s (get_or k 0 0) (column b) ≡ run (leads column s) 0 (w ++ b ∷ [])
      on = ap (λ z. cell s z (column b)) K.head ∙ sym (run_push (leads column s) 0 w b)

  pub seq_key : (w : Word) → Bytes w → SeqKey (reach next (unread s d m) w) w
  seq_key w ok = kept_along next SeqKey seq_step w [] (unread s d m) tt ok
      (record { shape = refl; head = refl; rest = set_none C G D (Of p) m room (marked s 0) (mark_says [] tt) })

  pub seq_keyed : Keyed (seq p q) (λ k b. followed s t d m n k (column b)) (unread s d m)
  seq_keyed = record {
    keys = λ u v a b. let K = seq_key u a in let J = seq_key v b in (
      λ e. (
        (finished_rows F u v a b).0 (sym K.head ∙ ap (λ z. get_or z 0 0) e ∙ J.head),
        set_same C G D (Of p) m room u v (drop 1 (reach next (unread s d m) u)) (drop 1 (reach next (unread s d m) v)) a b K.rest J.rest (ap (drop 1) e),
      ),
      λ e. key_same (reach next (unread s d m) u) (reach next (unread s d m) v) K.shape J.shape (K.head ∙ (finished_rows F u v a b).1 e.0 ∙ sym J.head)
          (same_set C G D (Of p) m room u v (drop 1 (reach next (unread s d m) u)) (drop 1 (reach next (unread s d m) v)) a b K.rest J.rest e.1),
    );
  }

  pub seq_says : (w : Word) → Bytes w → follow_shows t n (reach (λ k b. followed s t d m n k (column b)) (unread s d m) w) ≡ bit (matches (seq p q) w)
  seq_says w ok =
      let k = reach next (unread s d m) w in
      let A = accepted C G D (Of p) m room w (drop 1 k) ok (seq_key w ok).rest in
      let I = meaning.sequence p q w in
      bit_cond (accepts t (drop 1 k) n) ∙ ap bit (both_true (accepts t (drop 1 k) n) (matches (seq p q) w) (
        (λ h. let x = A.0 h in I.1 (x.1.0, x.0, x.1.1, x.1.2, x.2)),
        (λ h. let x = I.0 h in A.1 (x.1, (x.0, x.2, x.3), x.4)),
      ))
