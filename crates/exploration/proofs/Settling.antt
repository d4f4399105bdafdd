-- What a settled key makes of an exploration in memory: nothing more fits, an old row is led to, or a new one. Assumes nothing.
use Rattle.std.proofs.Common.{◌≡◌, ℕ, ◌+◌, ◌-◌, ◌*◌, ◌<◌, ◌≤◌, List, [], ◌∷◌, ◌++◌, length, take, drop, set, sym, refl, ap, ◌∙◌, subst, ⊎_elim, Option, arith, below_more}
use Rattle.std.proofs.lemmas.Bool.{cases_eq}
use Rattle.std.proofs.lemmas.List.{get_or-set_same, get_or-set_other, take_at}
use Rattle.machines.specs.Columns.{Columns, shown}
use Rattle.machines.specs.Systems.{Key, reach, Lawful, Pairwise}
use Rattle.exploration.specs.Keys.{key_at, ClassIs}
use Rattle.exploration.specs.Exploring.{word_at, Partly, On, TooMany, Complete, Says}
use Rattle.machines.proofs.Cells.{row_long}
use Rattle.exploration.proofs.RowParts.{with_row, row_set, row_wide, row_first}
use Rattle.exploration.proofs.Steps.{begun, again, new_apart, new, same_shows, rekey, retable, good_reach, next_row, all_found, ended}

module _ {f : Key → ℕ → Key} {s : Key} {shows : Key → ℕ} {column least : ℕ → ℕ} {count : ℕ} (columns : Columns count column least) where
  module _ {n k row c done : ℕ} {ks t : List ℕ} (on : On f s shows least count n k row c done ks t) where
    pub on_good : {good : Key → Type 0} {m : ℕ} → Lawful s f good m column least → (i : ℕ) → i < k → good (key_at ks n i)
    on_good {good} h i l = subst good (sym (on.partly.keyed i l)) (good_reach h (word_at on.words i) (on.partly.apart.bytes i l))

    pub on_next : c ≡ count → row < k → On f s shows least count n k (row + 1) 0 done ks t
    on_next e h = record {
      words = on.words;
      partly = next_row f s columns k row (key_at ks n) t on.words (subst (λ z. Partly f s least count k row z (key_at ks n) t on.words) e on.partly) h;
      says = on.says;
    }

    -- what the key of a row shows is written before its columns
    pub on_shown : (v : ℕ) → v ≡ shows (key_at ks n row) → row < k → done ≡ row → 257 * row < length t → On f s shows least count n k row c (row + 1) ks (set t (257 * row) v)
    on_shown v e h d w = record {
      words = on.words;
      partly = retable f s columns k row c (key_at ks n) t (set t (257 * row) v) on.words (λ i j m. sym (get_or-set_other t (257 * row) (257 * i + (1 + j)) v 0 (λ q. omega (arith, columns.few)))) on.partly;
      says = below_more (λ i. shown (set t (257 * row) v) i ≡ shows (reach f s (word_at on.words i))) row
          (λ i m. get_or-set_other t (257 * row) (257 * i) v 0 (λ q. omega arith) ∙ on.says i (omega arith))
          (get_or-set_same t (257 * row) v 0 w ∙ e ∙ ap shows (on.partly.keyed row h));
    }

    pub part_shown : (v : ℕ) → v ≡ shows (key_at ks n row) → row < k → done ≡ row → 257 * row + 257 ≤ length t
        → On f s shows least count n k row c (row + 1) ks (with_row row t (set (take (257 * row + 257 - 257 * row) (drop (257 * row) t)) 0 v))
    part_shown v e h d w = subst (On f s shows least count n k row c (row + 1) ks) (row_first row t v (omega (arith, row_long row t w)) (omega arith)) (on_shown v e h d (omega arith))

    module _ (in_row : row < k) (in-columns : c < count) (key : Key) (is : key ≡ f (key_at ks n row) (least c)) where
      pub settled_none : (most : ℕ) → k ≡ most → ((j : ℕ) → j < k → key_at ks n j ≡ key → ⊥) → TooMany f s most
      settled_none most e h = (
        on.words ++ (word_at on.words row ++ least c ∷ []) ∷ [],
        subst (λ z. Pairwise f s (z + 1) (on.words ++ (word_at on.words row ++ least c ∷ []) ∷ [])) e
            (new_apart f s columns k row c (key_at ks n) t on.words on.partly in_row in-columns (λ i m q. h i m (q ∙ sym is))),
      )

      module _ (ks' : List ℕ) (most to : ℕ) (w : 257 * row + (1 + c) < length t) (h : ClassIs ks ks' n k most key to) (few : done ≤ k) where
        kept_shown : (i : ℕ) → shown (set t (257 * row + (1 + c)) to) i ≡ shown t i
        kept_shown i = get_or-set_other t (257 * row + (1 + c)) (257 * i) to 0 (λ q. omega (arith, columns.few))

        pub settled_old : (to ≡ k → ⊥) → On f s shows least count n k row (c + 1) done ks' (set t (257 * row + (1 + c)) to)
        settled_old old = record {
          words = on.words;
          partly = again f s columns k row c (key_at ks' n) t on.words (rekey f s columns k row c (key_at ks n) (key_at ks' n) t on.words h.before on.partly) in_row in-columns to (omega (arith, h.within, old))
              (h.here ∙ is ∙ ap (λ x. f x (least c)) (sym (h.before row in_row))) w;
          says = λ i m. kept_shown i ∙ on.says i m;
        }

        pub settled_new : to ≡ k → On f s shows least count n (k + 1) row (c + 1) done ks' (set t (257 * row + (1 + c)) to)
        settled_new e = record {
          words = on.words ++ (word_at on.words row ++ least c ∷ []) ∷ [];
          partly = subst (λ z. Partly f s least count (k + 1) row (c + 1) (key_at ks' n) (set t (257 * row + (1 + c)) z) (on.words ++ (word_at on.words row ++ least c ∷ []) ∷ [])) (sym e)
              (new f s columns k row c (key_at ks n) t on.words on.partly in_row in-columns (λ i m q. h.fresh e i m (q ∙ sym is)) (key_at ks' n) h.before
              (ap (key_at ks' n) (sym e) ∙ h.here ∙ is) w);
          says = λ i m. kept_shown i ∙ on.says i m ∙ sym (same_shows f s columns k row c (key_at ks n) t on.words on.partly in_row in-columns shows i (omega arith));
        }

-- a step from a key as it is kept
pub step_from : (f : Key → ℕ → Key) {out x y : Key} {b : ℕ} → out ≡ f x b → x ≡ y → out ≡ f y b
step_from f {b = b} p q = p ∙ ap (λ x. f x b) q

-- the same numbers under other names
pub on_as : {f : Key → ℕ → Key} {s : Key} {shows : Key → ℕ} {least : ℕ → ℕ} {m m' n n' k k' row c done : ℕ} {ks t : List ℕ} → m' ≡ m → n' ≡ n → k' ≡ k
    → On f s shows least m n k row c done ks t → On f s shows least m' n' k' row c done ks t
on_as {f} {s} {shows} {least} {m} {m'} {n} {n'} {k} {k'} {row} {c} {done} {ks} {t} p q r on =
    subst (λ z. On f s shows least z n' k' row c done ks t) (sym p) (subst (λ z. On f s shows least m z k' row c done ks t) (sym q) (subst (λ z. On f s shows least m n z row c done ks t) (sym r) on))

module _ {f : Key → ℕ → Key} {s : Key} {shows : Key → ℕ} {column least : ℕ → ℕ} {count : ℕ} (columns : Columns count column least) where
  -- from the start, and to the end
  pub on_begun : {n row : ℕ} {ks t : List ℕ} (key : Key) → 0 ≡ row → key_at ks n row ≡ key → key ≡ s → On f s shows least count n 1 row 0 row ks t
  on_begun {n} {row} {ks} {t} key z e is = subst (λ r. On f s shows least count n 1 r 0 r ks t) z
      (record { words = [] ∷ []; partly = begun f s columns (key_at ks n) t (ap (key_at ks n) z ∙ e ∙ is); says = λ i m. absurd (omega arith) })

  pub on_ended : {good : Key → Type 0} {m n k row most : ℕ} {ks t : List ℕ} → Lawful s f good m column least → On f s shows least count n k row 0 row ks t → row ≡ k → k ≤ most → 257 * most ≤ length t → Complete f s shows column count n most k ks t
  on_ended {n = n} {k = k} {row = row} {ks = ks} {t = t} lawful on e few long = record {
    few = few;
    inside = record { few = columns.few; some = p.some; long = omega arith; cells = λ i h j m. (all_found f s columns lawful k (key_at ks n) t on.words p i j h m).within };
    explored = ended f s columns lawful k (key_at ks n) t on.words p;
    shows_keys = λ i h. on.says i (omega arith) ∙ ap shows (sym (on.partly.keyed i h));
  }
    where
      p : Partly f s least count k k 0 (key_at ks n) t on.words
      p = subst (λ z. Partly f s least count k z 0 (key_at ks n) t on.words) e on.partly

-- the same through the row as a part of the table
module _ {f : Key → ℕ → Key} {s : Key} {shows : Key → ℕ} {column least : ℕ → ℕ} {count : ℕ} (columns : Columns count column least) {n k row c done : ℕ} {ks : List ℕ}
    (t cells : List ℕ) (long : length cells ≡ 257) (room : 257 * row + 257 ≤ length t) (on : On f s shows least count n k row c done ks (with_row row t cells))
    (ks' : List ℕ) (in_row : row < k) (in-columns : c < count) (key : Key) (is : key ≡ f (key_at ks n row) (least c)) (most to : ℕ) (h : ClassIs ks ks' n k most key to) (few : done ≤ k) where
  fits : 257 * row + (1 + c) < length (with_row row t cells)
  fits = omega (arith, columns.few, row_wide row t cells long room)

  moved : with_row row t (set cells (1 + c) to) ≡ set (with_row row t cells) (257 * row + (1 + c)) to
  moved = row_set row t cells (1 + c) to (omega (arith, columns.few)) (omega arith)

  part_old : (to ≡ k → ⊥) → On f s shows least count n k row (c + 1) done ks' (with_row row t (set cells (1 + c) to))
  part_old old = subst (On f s shows least count n k row (c + 1) done ks') (sym moved) (settled_old columns on in_row in-columns key is ks' most to fits h few old)

  part_new : to ≡ k → On f s shows least count n (k + 1) row (c + 1) done ks' (with_row row t (set cells (1 + c) to))
  part_new e = subst (On f s shows least count n (k + 1) row (c + 1) done ks') (sym moved) (settled_new columns on in_row in-columns key is ks' most to fits h few e)

  pub part_settled : {k' : ℕ} → (to < k → k' ≡ k) × (to ≡ k → k' ≡ k + 1) → On f s shows least count n k' row (c + 1) done ks' (with_row row t (set cells (1 + c) to))
  part_settled counts = ⊎_elim
      (λ (e : to ≡ k). on_as refl refl (counts.1 e) (part_new e))
      (λ (d : to ≡ k → ⊥). on_as refl refl (counts.0 (omega (arith, h.within, d))) (part_old d))
      (cases_eq to k)

-- of the same keys under other names
pub says_as : (f : Key → ℕ → Key) (s : Key) (shows : Key → ℕ) (column : ℕ → ℕ) (count : ℕ) (t : List ℕ) (r : Option ℕ) {n n' most most' : ℕ} {keys keys' : List ℕ} → n ≡ n' → most ≡ most' → keys ≡ keys'
    → Says f s shows column count n most keys t r → Says f s shows column count n' most' keys' t r
says_as f s shows column count t r {n} {n'} {most} {most'} {keys} {keys'} p q e says =
    subst (λ z. Says f s shows column count n' most' z t r) e (subst (λ z. Says f s shows column count n' z keys t r) q (subst (λ z. Says f s shows column count z most keys t r) p says))

-- the front of what was lent
pub front_of : (keys xs behind : List ℕ) (n : ℕ) → xs ≡ keys → length xs ≡ n → keys ≡ take n (xs ++ behind)
front_of keys xs behind n e long = sym (take_at xs behind n long ∙ e)

-- even the first key needs room
pub none_fits : (f : Key → ℕ → Key) (s : Key) {column least : ℕ → ℕ} {count most : ℕ} → Columns count column least → 0 ≡ most → TooMany f s most
none_fits f s columns e = ([] ∷ [], subst (λ z. Pairwise f s (z + 1) ([] ∷ [])) e (begun f s columns (λ _. s) [] refl).apart)
