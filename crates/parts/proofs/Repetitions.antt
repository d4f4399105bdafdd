-- Many: whether it matches, and the set of live rows, are what it tells apart. Assumes nothing.
--   StarKey k w    the key k is that of the word w
use Rattle.std.proofs.Common.{◌≡◌, ℕ, ◌*◌, ◌<◌, ◌≤◌, Bool, true, ◌⊎◌, ◌↔◌, List, [], ◌∷◌, ◌++◌, length, get_or, drop, Option, sym, refl, ap, ◌∙◌, inl, inr, ⊎_elim, arith, length-append}
use Rattle.std.proofs.lemmas.List.{append-nil, append_assoc, same_from_push}
use Rattle.machines.specs.Words.{Word, Bytes}
use Rattle.machines.specs.Columns.{Columns}
use Rattle.machines.specs.Systems.{Key, reach}
use Rattle.machines.proofs.Codes.{bytes_append}
use Rattle.refinement.specs.DeadRows.{DeadRow}
use Rattle.subsets.specs.Sets.{moved, accepts, again, whole}
use Rattle.patterns.specs.Patterns.{Pattern, star, matches}
use Rattle.patterns.specs.Residuals.{Of, SameResidual}
use Rattle.patterns.specs.Sizes.{Behind}
use Rattle.patterns.specs.Searching.{bit}
use Rattle.patterns.proofs.Cutting.{Many, done, more, many_words, words_many}
use Rattle.parts.specs.Steps.{Finished}
use Rattle.parts.proofs.Keyed.{Keyed, bit_same, both_true, residual_here}
use Rattle.parts.proofs.Behinds.{Split, at_start, pushed, split, kept_along, bit_cond, SetOf, set_none, set_more, reached, same_set, set_same}
use Rattle.parts.proofs.Sequences.{key_same}

-- many parts, one at least, are many parts and a last one that isn't empty
module _ (f : Word → Bool) where
  abbrev Last : Word → Type 0
  Last w = (u : Word) × (v : Word) × (u ++ v ≡ w) × Many f u × (0 < length v) × (f v ≡ true)

  many_last : (w : Word) → Many f w → (w ≡ []) ⊎ Last w
  many_last w done = inl refl
  many_last w (more {u} {v} e pos a m) = inr (⊎_elim alone longer (many_last v m))
    where
      alone : v ≡ [] → Last w
      alone d = ([], u, sym (append-nil u) ∙ ap (λ z. u ++ z) (sym d) ∙ e, done, pos, a)

      longer : Last v → Last w
      longer (x, y, d, n, l, h) = (u ++ x, y, append_assoc u x y ∙ ap (λ z. u ++ z) d ∙ e, more refl pos a n, l, h)

  pub many_append : (u v : Word) → Many f u → Many f v → Many f (u ++ v)
  many_append u v done n = n
  many_append u v (more {u = a} {v = b} e pos h m) n = more (sym (append_assoc a b v) ∙ ap (λ x. x ++ v) e) pos h (many_append b v m n)

-- many p matches a word with one byte more exactly if something that stands behind a front in many p is, with that byte, in p
star_push : (p : Pattern) (w : Word) (b : ℕ) → Of (star p) (w ++ b ∷ []) ↔ ((y : Word) × Behind (Of (star p)) w y × Of p (y ++ b ∷ []))
star_push p w b = (λ h. into (many_last (matches p) (w ++ b ∷ []) (many_words (matches p) (length (w ++ b ∷ [])) (w ++ b ∷ []) h)), from)
  where
    Goal : Type 0
    Goal = (y : Word) × Behind (Of (star p)) w y × Of p (y ++ b ∷ [])

    of_many : (u : Word) → Many (matches p) u → Of (star p) u
    of_many u m = words_many (matches p) (length u) u m (omega arith)

    at_end : (u v : Word) → Split v → u ++ v ≡ w ++ b ∷ [] → Of (star p) u → 0 < length v → Of p v → Goal
    at_end u v at_start e m l h = absurd (omega arith)
    at_end u v (pushed y x) e m l h = let s = same_from_push (u ++ y) w x b (append_assoc u y (x ∷ []) ∙ e) in (y, (u, s.0, m), rw s.1 at h)

    into : (w ++ b ∷ [] ≡ []) ⊎ Last (matches p) (w ++ b ∷ []) → Goal
    into (inl e) = absurd (omega (arith, ap length e, length-append w (b ∷ [])))
    into (inr (u, v, e, m, l, h)) = at_end u v (split v) e (of_many u m) l h

    from : Goal → Of (star p) (w ++ b ∷ [])
    from (y, (u, e, m), h) =
        let one : Many (matches p) (y ++ b ∷ []) = more {u = y ++ b ∷ []} {v = []} (append-nil (y ++ b ∷ [])) (omega (arith, length-append y (b ∷ []))) h done in
        let n = many_append (matches p) u (y ++ b ∷ []) (many_words (matches p) (length u) u m) one in
        of_many (w ++ b ∷ []) (rw (← e) (rw append_assoc n))

reach_append : (next : Key → ℕ → Key) (s : Key) (u v : Word) → reach next s (u ++ v) ≡ reach next (reach next s u) v
reach_append next s [] v = refl
reach_append next s (b ∷ u) v = reach_append next (next s b) u v

module _ {column least : ℕ → ℕ} {c : ℕ} {p : Pattern} {n : ℕ} {t : List ℕ} {d : Option ℕ} (m : ℕ) (C : Columns c column least) (F : Finished column p n t)
    (D : DeadRow c n t d) (room : n ≤ 32 * m) where
  abbrev next : Key → ℕ → Key
  next k b = again t d m n k (column b)

  pub record StarKey (k : Key) (w : Word) : Type 0 where
    pub shape : k ≡ get_or k 0 0 ∷ drop 1 k
    pub head : get_or k 0 0 ≡ bit (matches (star p) w)
    pub rest : SetOf C F D (Of (star p)) m room w (drop 1 k)

  star_step : (k : Key) (w : Word) (b : ℕ) → Bytes w → b < 256 → StarKey k w → StarKey (next k b) (w ++ b ∷ [])
  star_step k w b ok fine K = record {
    shape = refl;
    head = bit_cond mark ∙ ap bit (both_true mark (matches (star p) (w ++ b ∷ [])) says);
    rest = set_more C F D (Of (star p)) m room w b (drop 1 k) ok fine K.rest mark says;
  }
    where
      mark : Bool
      mark = accepts t (moved t d (column b) (drop 1 k) m n) n

      says : (mark ≡ true) ↔ Of (star p) (w ++ b ∷ [])
      says =
          let R = reached C F D (Of (star p)) m room w b (drop 1 k) ok fine K.rest in
          ((λ h. (star_push p w b).1 (R.0 h)), (λ h. R.1 ((star_push p w b).0 h)))

  pub star_key : (w : Word) → Bytes w → StarKey (reach next (whole d m) w) w
  star_key w ok = kept_along next StarKey star_step w [] (whole d m) tt ok
      (record { shape = refl; head = refl; rest = set_none C F D (Of (star p)) m room true ((λ _. refl), (λ _. refl)) })

  pub star_says : (w : Word) → Bytes w → get_or (reach (λ k b. again t d m n k (column b)) (whole d m) w) 0 0 ≡ bit (matches (star p) w)
  star_says w ok = (star_key w ok).head

  -- one key is one answer, whatever follows
  key_residual : (u v : Word) → Bytes u → Bytes v → reach next (whole d m) u ≡ reach next (whole d m) v → SameResidual (Of (star p)) u v
  key_residual u v a b e x ok =
      let same : matches (star p) (u ++ x) ≡ matches (star p) (v ++ x) = bit_same (matches (star p) (u ++ x)) (matches (star p) (v ++ x)) (
      sym (star_says (u ++ x) (bytes_append u x a ok))
      ∙ ap (λ z. get_or z 0 0) (reach_append next (whole d m) u x ∙ ap (λ z. reach next z x) e ∙ sym (reach_append next (whole d m) v x))
      ∙ star_says (v ++ x) (bytes_append v x b ok)) in
      ((λ h. sym same ∙ h), (λ h. same ∙ h))

  pub star_keyed : Keyed (star p) (λ k b. again t d m n k (column b)) (whole d m)
  star_keyed = record {
    keys = λ u v a b. let K = star_key u a in let J = star_key v b in (
      λ e. (
        key_residual u v a b e,
        set_same C F D (Of (star p)) m room u v (drop 1 (reach next (whole d m) u)) (drop 1 (reach next (whole d m) v)) a b K.rest J.rest (ap (drop 1) e),
      ),
      λ e. key_same (reach next (whole d m) u) (reach next (whole d m) v) K.shape J.shape (K.head ∙ ap bit (residual_here (star p) u v e.0) ∙ sym J.head)
          (same_set C F D (Of (star p)) m room u v (drop 1 (reach next (whole d m) u)) (drop 1 (reach next (whole d m) v)) a b K.rest J.rest e.1),
    );
  }
