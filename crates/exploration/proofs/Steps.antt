-- An exploration's steps: it begins, reads a column that leads to an old key or to a new one, goes on to the next row, and ends.
-- Assumes nothing.
use Rattle.std.proofs.Common.{◌≡◌, ℕ, ◌+◌, ◌*◌, ◌<◌, ◌≤◌, ◌⊎◌, List, [], ◌∷◌, ◌++◌, length, get_or, set, sym, refl, ap, ◌∙◌, subst, inl, inr, ⊎_elim, arith, below_more}
use Rattle.std.proofs.lemmas.Bool.{cases_order, cases_lt}
use Rattle.std.proofs.lemmas.List.{get_or-set_same, get_or-set_other, get_or_append_left, get_or_push, length_push}
use Rattle.machines.specs.Words.{Word, Bytes}
use Rattle.machines.specs.Machines.{run}
use Rattle.machines.specs.Columns.{Columns, cell, leads}
use Rattle.machines.specs.Minimal.{code, First, Numbered}
use Rattle.machines.specs.Systems.{Key, reach, Lawful, Pairwise, Explored}
use Rattle.exploration.specs.Exploring.{word_at, Led, Partly}
use Rattle.machines.proofs.Codes.{reach_push, code_push, bytes_push}

-- what a cell holds after one is written
cell_after : (t : List ℕ) (row c to i j : ℕ) → 257 * row + (1 + c) < length t → j < 256 → c < 256 → 257 * i + j < 257 * row + (c + 1)
    → ((257 * i + j < 257 * row + c) × (cell t i j ≡ cell (set t (257 * row + (1 + c)) to) i j)) ⊎ ((i ≡ row) × (j ≡ c) × (to ≡ cell (set t (257 * row + (1 + c)) to) i j))
cell_after t row c to i j w hj hc h = ⊎_elim
    (λ (q : 257 * i + j < 257 * row + c). inl (q, sym (get_or-set_other t (257 * row + (1 + c)) (257 * i + (1 + j)) to 0 (omega arith))))
    (λ (q : 257 * row + c ≤ 257 * i + j). inr (
      omega arith,
      omega arith,
      (let e : 257 * i + (1 + j) ≡ 257 * row + (1 + c) = omega arith in
          sym (ap (λ z. get_or (set t (257 * row + (1 + c)) to) z 0) e ∙ get_or-set_same t (257 * row + (1 + c)) to 0 w)),
    ))
    (cases_lt (257 * i + j) (257 * row + c))

-- words lead from good keys to good keys
pub good_reach : {s : Key} {next : Key → ℕ → Key} {good : Key → Type 0} {n : ℕ} {column least : ℕ → ℕ} → Lawful s next good n column least → (w : Word) → Bytes w → good (reach next s w)
good_reach {s} {next} {good} h w o = go w s h.starts o
  where
    go : (w : Word) (x : Key) → good x → Bytes w → good (reach next x w)
    go [] x g o = g
    go (b ∷ w) x g o = go w (next x b) (h.stays x b g o.0) o.1

module _ (f : Key → ℕ → Key) (s : Key) {column least : ℕ → ℕ} {count : ℕ} (columns : Columns count column least) where
  pub begun : (key : ℕ → Key) (t : List ℕ) → key 0 ≡ s → Partly f s least count 1 0 0 key t ([] ∷ [])
  begun key t e = record {
    apart = record { many = refl; bytes = λ i h. subst (λ z. Bytes (word_at ([] ∷ []) z)) (zero_is i h) tt; differ = λ i j h k _. absurd (omega arith) };
    some = omega arith;
    starts = refl;
    keyed = λ i h. subst (λ z. key z ≡ reach f s (word_at ([] ∷ []) z)) (zero_is i h) e;
    order = λ i j h k. absurd (omega arith);
    below = λ b _ i h _. subst (λ z. code 0 (word_at ([] ∷ []) z) < 0 + (1 + b)) (zero_is i h) (omega arith);
    found = λ i j h k m. absurd (omega arith);
  }
    where
      zero_is : (i : ℕ) → i < 1 → 0 ≡ i
      zero_is i h = omega arith

  module _ (k row c : ℕ) (key : ℕ → Key) (t : List ℕ) (ws : List Word) (p : Partly f s least count k row c key t ws) (in_row : row < k) (in-columns : c < count) where
    -- a column's least byte is larger than those before it
    under : (i : ℕ) → i < k → code 0 (word_at ws i) < 256 * code 0 (word_at ws row) + (1 + least c)
    under i h = p.below (least c) (λ j m. columns.up j c m in-columns) i h in_row

    -- the column leads to a row that is there
    pub again : (to : ℕ) → to < k → key to ≡ f (key row) (least c) → 257 * row + (1 + c) < length t → Partly f s least count k row (c + 1) key (set t (257 * row + (1 + c)) to) ws
    again to h e w = record {
      apart = p.apart;
      some = p.some;
      starts = p.starts;
      keyed = p.keyed;
      order = p.order;
      below = λ b l. p.below b (λ j m. l j (omega arith));
      found = λ i j hi hj m. ⊎_elim
          (λ q. subst (Led f s least k ws i j) q.1 (p.found i j hi hj q.0))
          (λ q. subst (Led f s least k ws i j) q.2 (record {
            within = h;
            same = sym (p.keyed to h) ∙ e ∙ ap (λ x. f x (least c)) (p.keyed row in_row) ∙ ap (λ z. f (reach f s (word_at ws z)) (least c)) (sym q.0) ∙ ap (λ z. f (reach f s (word_at ws i)) (least z)) (sym q.1);
            early = subst (λ z. code 0 (word_at ws to) ≤ 256 * code 0 (word_at ws z) + (1 + least j)) (sym q.0) (omega (arith, under to h, ap least q.1));
          }))
          (cell_after t row c to i j w (omega (arith, columns.few)) (omega (arith, columns.few)) m);
    }

    -- or to a new one
    more : List Word
    more = ws ++ (word_at ws row ++ least c ∷ []) ∷ []

    old_at : (i : ℕ) → i < k → word_at more i ≡ word_at ws i
    unfolding more
    old_at i h = get_or_append_left ws ((word_at ws row ++ least c ∷ []) ∷ []) [] i (omega (arith, p.apart.many))

    new_at : word_at more k ≡ word_at ws row ++ least c ∷ []
    unfolding more
    new_at = get_or_push ws (word_at ws row ++ least c ∷ []) [] k p.apart.many

    old_reach : (i : ℕ) → i < k → reach f s (word_at more i) ≡ reach f s (word_at ws i)
    old_reach i h = ap (reach f s) (old_at i h)

    new_reach : reach f s (word_at more k) ≡ f (reach f s (word_at ws row)) (least c)
    new_reach = ap (reach f s) new_at ∙ reach_push f s (word_at ws row) (least c)

    old_code : (i : ℕ) → i < k → code 0 (word_at more i) ≡ code 0 (word_at ws i)
    old_code i h = ap (code 0) (old_at i h)

    new_code : code 0 (word_at more k) ≡ 256 * code 0 (word_at ws row) + (1 + least c)
    new_code = ap (code 0) new_at ∙ code_push 0 (word_at ws row) (least c)

    pub same_shows : (shows : Key → ℕ) (i : ℕ) → i < k → shows (reach f s (word_at (ws ++ (word_at ws row ++ least c ∷ []) ∷ []) i)) ≡ shows (reach f s (word_at ws i))
    unfolding more
    same_shows shows i h = ap shows (old_reach i h)

    module _ (fresh : (i : ℕ) → i < k → key i ≡ f (key row) (least c) → ⊥) where
      pub new_apart : Pairwise f s (k + 1) (ws ++ (word_at ws row ++ least c ∷ []) ∷ [])
      unfolding more
      new_apart = record {
        many = length_push ws _ ∙ ap (λ z. z + 1) p.apart.many;
        bytes = below_more (λ i. Bytes (word_at more i)) k
            (λ i h. subst Bytes (sym (old_at i h)) (p.apart.bytes i h))
            (subst Bytes (sym new_at) (bytes_push (word_at ws row) (least c) (p.apart.bytes row in_row) (columns.byte c in-columns)));
        differ = λ i j h m. below_more (λ j. (i : ℕ) → i < j → reach f s (word_at more i) ≡ reach f s (word_at more j) → ⊥) k
            (λ j m i h e. p.apart.differ i j h m (sym (old_reach i (omega arith)) ∙ e ∙ old_reach j m))
            (λ i h e. fresh i h (p.keyed i h ∙ sym (old_reach i h) ∙ e ∙ new_reach ∙ ap (λ x. f x (least c)) (sym (p.keyed row in_row))))
            j m i h;
      }

      pub new : (key' : ℕ → Key) → ((i : ℕ) → i < k → key' i ≡ key i) → key' k ≡ f (key row) (least c) → 257 * row + (1 + c) < length t
          → Partly f s least count (k + 1) row (c + 1) key' (set t (257 * row + (1 + c)) k) (ws ++ (word_at ws row ++ least c ∷ []) ∷ [])
      unfolding more
      new key' kept is w = record {
        apart = new_apart;
        some = omega arith;
        starts = old_at 0 p.some ∙ p.starts;
        keyed = below_more (λ i. key' i ≡ reach f s (word_at more i)) k
            (λ i h. kept i h ∙ p.keyed i h ∙ sym (old_reach i h))
            (is ∙ ap (λ x. f x (least c)) (p.keyed row in_row) ∙ sym new_reach);
        order = λ i j h m. below_more (λ j. (i : ℕ) → i < j → code 0 (word_at more i) < code 0 (word_at more j)) k
            (λ j m i h. omega (arith, p.order i j h m, old_code i (omega arith), old_code j m))
            (λ i h. omega (arith, under i h, old_code i h, new_code))
            j m i h;
        below = λ b l i h _. below_more (λ i. code 0 (word_at more i) < 256 * code 0 (word_at more row) + (1 + b)) k
            (λ i h. omega (arith, p.below b (λ j m. l j (omega arith)) i h in_row, old_code i h, old_code row in_row))
            (omega (arith, new_code, old_code row in_row, l c (omega arith))) i h;
        found = λ i j hi hj m. ⊎_elim
            (λ q. subst (Led f s least (k + 1) more i j) q.1 (kept_found i j (cell t i j) (omega arith) (p.found i j (omega arith) hj q.0)))
            (λ q. subst (Led f s least (k + 1) more i j) q.2 (record {
              within = omega arith;
              same = new_reach ∙ ap (λ x. f x (least c)) (sym (old_reach row in_row)) ∙ ap (λ z. f (reach f s (word_at more z)) (least c)) (sym q.0) ∙ ap (λ z. f (reach f s (word_at more i)) (least z)) (sym q.1);
              early = subst (λ z. code 0 (word_at more k) ≤ 256 * code 0 (word_at more z) + (1 + least j)) (sym q.0) (omega (arith, new_code, old_code row in_row, ap least q.1));
            }))
            (cell_after t row c k i j w (omega (arith, columns.few)) (omega (arith, columns.few)) m);
      }
        where
          kept_found : (i c j : ℕ) → i < k → Led f s least k ws i c j → Led f s least (k + 1) more i c j
          kept_found i c j h q = record {
            within = omega (arith, q.within);
            same = old_reach j q.within ∙ q.same ∙ ap (λ x. f x (least c)) (sym (old_reach i h));
            early = omega (arith, q.early, old_code j q.within, old_code i h);
          }

  -- only the keys that are found count
  pub rekey : (k row c : ℕ) (key key' : ℕ → Key) (t : List ℕ) (ws : List Word) → ((i : ℕ) → i < k → key' i ≡ key i) → Partly f s least count k row c key t ws → Partly f s least count k row c key' t ws
  rekey k row c key key' t ws h p = record {
    apart = p.apart;
    some = p.some;
    starts = p.starts;
    keyed = λ i m. h i m ∙ p.keyed i m;
    order = p.order;
    below = p.below;
    found = p.found;
  }

  -- only the cells of columns that are read count
  pub retable : (k row c : ℕ) (key : ℕ → Key) (t t' : List ℕ) (ws : List Word) → ((i j : ℕ) → j < count → cell t i j ≡ cell t' i j) → Partly f s least count k row c key t ws → Partly f s least count k row c key t' ws
  retable k row c key t t' ws h p = record {
    apart = p.apart;
    some = p.some;
    starts = p.starts;
    keyed = p.keyed;
    order = p.order;
    below = p.below;
    found = λ i j hi hj m. subst (Led f s least k ws i j) (h i j hj) (p.found i j hi hj m);
  }

  -- the row is done
  pub next_row : (k row : ℕ) (key : ℕ → Key) (t : List ℕ) (ws : List Word) → Partly f s least count k row count key t ws → row < k → Partly f s least count k (row + 1) 0 key t ws
  next_row k row key t ws p h = record {
    apart = p.apart;
    some = p.some;
    starts = p.starts;
    keyed = p.keyed;
    order = p.order;
    below = λ b _ i hi hr. omega (arith, p.below 256 columns.byte i hi h, p.order row (row + 1) (omega arith) hr);
    found = λ i j hi hj m. p.found i j hi hj (omega (arith, columns.few));
  }

  -- all rows are done
  module _ {good : Key → Type 0} {n : ℕ} (lawful : Lawful s f good n column least) (k : ℕ) (key : ℕ → Key) (t : List ℕ) (ws : List Word) (p : Partly f s least count k k 0 key t ws) where
    pub all_found : (i c : ℕ) → i < k → c < count → Led f s least k ws i c (cell t i c)
    all_found i c h m = p.found i c h m (omega arith)

    -- a byte leads where its column's least byte leads, and that is no later
    by_byte : (i b : ℕ) → i < k → b < 256 → (leads column t i b < k) × (reach f s (word_at ws (leads column t i b)) ≡ f (reach f s (word_at ws i)) b)
        × (code 0 (word_at ws (leads column t i b)) ≤ 256 * code 0 (word_at ws i) + (1 + b))
    by_byte i b h m = let q = all_found i (column b) h (columns.within b m) in (
      q.within,
      q.same ∙ sym (lawful.alike (reach f s (word_at ws i)) b (good_reach lawful (word_at ws i) (p.apart.bytes i h)) m),
      omega (arith, q.early, columns.low b m),
    )

    from : (w : Word) (i a : ℕ) (x : Key) → i < k → x ≡ reach f s (word_at ws i) → code 0 (word_at ws i) ≤ a → Bytes w
        → (run (leads column t) i w < k) × (reach f x w ≡ reach f s (word_at ws (run (leads column t) i w))) × (code 0 (word_at ws (run (leads column t) i w)) ≤ code a w)
    from [] i a x h e m o = (h, e, m)
    from (b ∷ w) i a x h e m o = let q = by_byte i b h o.0 in
        from w (leads column t i b) (256 * a + (1 + b)) (f x b) q.0 (ap (λ y. f y b) e ∙ sym q.1) (omega (arith, q.2)) o.1

    from_start : (w : Word) → Bytes w
        → (run (leads column t) 0 w < k) × (reach f s w ≡ reach f s (word_at ws (run (leads column t) 0 w))) × (code 0 (word_at ws (run (leads column t) 0 w)) ≤ code 0 w)
    from_start w o = from w 0 0 s p.some (sym (ap (reach f s) p.starts)) (omega (arith, ap (code 0) p.starts)) o

    one : (i j : ℕ) → i < k → j < k → reach f s (word_at ws i) ≡ reach f s (word_at ws j) → i ≡ j
    one i j h m e = ⊎_elim (λ (q : i ≡ j). q) (⊎_elim (λ (q : i < j). absurd (p.apart.differ i j q m e)) (λ (q : j < i). absurd (p.apart.differ j i q h (sym e)))) (cases_order i j)

    first_at : (i : ℕ) → i < k → First (leads column t) i (word_at ws i)
    first_at i h = record {
      bytes = p.apart.bytes i h;
      comes = let q = from_start (word_at ws i) (p.apart.bytes i h) in sym (one i (run (leads column t) 0 (word_at ws i)) h q.0 q.1);
      least = λ v o e. let q = from_start v o in omega (arith, q.2, ap (λ z. code 0 (word_at ws z)) e);
    }

    numbered : Numbered k (leads column t)
    numbered = record {
      some = p.some;
      closed = λ i b h m. (by_byte i b h m).0;
      first = λ i h. (word_at ws i, first_at i h);
      order = λ i j u v h m a b.
          let x = first_at i (omega arith) in let y = first_at j m in
          omega (arith, p.order i j h m, a.least (word_at ws i) x.bytes x.comes, x.least u a.bytes a.comes, b.least (word_at ws j) y.bytes y.comes, y.least v b.bytes b.comes);
    }

    pub ended : Explored f s k key (leads column t)
    ended = record {
      numbered = numbered;
      once = λ i j h m e. one i j h m (sym (p.keyed i h) ∙ e ∙ p.keyed j m);
      reaches = λ w o. p.keyed (run (leads column t) 0 w) (from_start w o).0 ∙ sym (from_start w o).1;
    }
