-- Bytes into columns: cuts are marked, then the bytes between them are numbered. Assumes nothing.
use Rattle.std.proofs.Common.{◌≡◌, ℕ, ◌+◌, ◌<◌, ◌≤◌, true, ◌&&◌, ltb, leb, List, length, get_or, set, Some, sym, refl, ap, ◌∙◌, subst, ⊎_elim, arith, length-set, get_or-set_other, get_or-set_same, below_more}
use Rattle.std.proofs.lemmas.Bool.{and_parts, cases_eq, cases_lt, ltb-true, leb-true}
use Rattle.std.proofs.lemmas.Bool.Decides.{nat_tests}
use Rattle.patterns.specs.declared.node.Node.{Node}
use Rattle.patterns.specs.declared.node.Node.TheVariants.{Nothing, Empty, Range, Sequence, Union, Intersection, Complement, Star}
use Rattle.patterns.specs.Nodes.{node_sound}
use Rattle.patterns.specs.Promises.{NodeAt}
use Rattle.patterns.proofs.Decoding.{node_decode}
use Rattle.plans.specs.Dividing.{marks, Marked, Divided, ColumnsOf}

-- marking the cuts, place by place
one_node : {s : List ℕ} {at : ℕ} {m n : Node} → NodeAt s at m → NodeAt s at n → m ≡ n
one_node {m = m} {n = n} a b = let e : Some m ≡ Some n = sym (node_decode a) ∙ node_decode b in cc

-- no node at this place
pub marked_past : {s cuts : List ℕ} {at : ℕ} → Marked s cuts at → ((n : Node) → NodeAt s at n → ⊥) → Marked s cuts (at + 1)
marked_past {s = s} {cuts = cuts} {at = at} M fails = record {
  begins = below_more _ at M.begins (λ a b h. absurd (fails (Range a b) h));
  behind = below_more _ at M.behind (λ a b h. absurd (fails (Range a b) h));
}

-- a mark stays
stays : (t : List ℕ) (i k : ℕ) → i < length t → get_or t k 0 ≡ 1 → get_or (set t i 1) k 0 ≡ 1
stays t i k l e = ⊎_elim
    (λ (d : k ≡ i). subst (λ (m : ℕ). get_or (set t i 1) m 0 ≡ 1) (sym d) (get_or-set_same t i 1 0 l))
    (λ (d : k ≡ i → ⊥). get_or-set_other t i k 1 0 d ∙ e)
    (cases_eq k i)

module _ (cuts : List ℕ) (long : length cuts ≡ 257) where
  within : (a b : ℕ) → node_sound (Range a b) ≡ true → (a < length cuts) × (b + 1 < length (set cuts a 1))
  within a b h =
      let o = and_parts (ltb b 256) (leb a b) h in
      (omega (arith, ltb-true b 256 o.0, leb-true a b o.1), omega (arith, ltb-true b 256 o.0, length-set cuts a 1))

  marks_stay : (n : Node) → node_sound n ≡ true → (i : ℕ) → get_or cuts i 0 ≡ 1 → get_or (marks n cuts) i 0 ≡ 1
  marks_stay Nothing h i e = e
  marks_stay Empty h i e = e
  marks_stay (Range a b) h i e = let w = within a b h in stays (set cuts a 1) (b + 1) i w.1 (stays cuts a i w.0 e)
  marks_stay Sequence h i e = e
  marks_stay Union h i e = e
  marks_stay Intersection h i e = e
  marks_stay Complement h i e = e
  marks_stay Star h i e = e

  -- the node at this place
  pub marked_more : {s : List ℕ} {at : ℕ} {n : Node} → Marked s cuts at → NodeAt s at n → Marked s (marks n cuts) (at + 1)
  marked_more {s = s} {at = at} {n = n} M here = record {
    begins = below_more _ at (λ k l a b r. marks_stay n here.sounds a (M.begins k l a b r))
        (λ a b r. let w = within a b r.sounds in
        ap (λ m. get_or (marks m cuts) a 0) (one_node here r) ∙ stays (set cuts a 1) (b + 1) a w.1 (get_or-set_same cuts a 1 0 w.0));
    behind = below_more _ at (λ k l a b r. marks_stay n here.sounds (b + 1) (M.behind k l a b r))
        (λ a b r. let w = within a b r.sounds in ap (λ m. get_or (marks m cuts) (b + 1) 0) (one_node here r) ∙ get_or-set_same (set cuts a 1) (b + 1) 1 0 w.1);
  }

-- what holds of the places below n of a list, and of what is written at n
at_more : (P : ℕ → ℕ → Type 0) (t : List ℕ) (n v : ℕ) → n < length t → ((i : ℕ) → i < n → P i (get_or t i 0)) → P n v → (i : ℕ) → i < n + 1 → P i (get_or (set t n v) i 0)
at_more P t n v l below here i h = ⊎_elim
    (λ (e : i ≡ n). subst (λ (k : ℕ). P k (get_or (set t n v) k 0)) (sym e) (subst (P n) (sym (get_or-set_same t n v 0 l)) here))
    (λ (d : i ≡ n → ⊥). subst (P i) (sym (get_or-set_other t n i v 0 d)) (below i (omega arith)))
    (cases_eq i n)

below_same : (t : List ℕ) (n v i : ℕ) → i < n → get_or (set t n v) i 0 ≡ get_or t i 0
below_same t n v i l = get_or-set_other t n i v 0 (λ (e : i ≡ n). omega arith)

-- numbering the bytes: byte 0 begins column 0
pub divided_start : (cuts column least : List ℕ) → 0 < length column → 0 < length least → Divided cuts (set column 0 0) (set least 0 0) 0 1
divided_start cuts column least l m = record {
  few = omega arith;
  within = λ b h. omega (arith, at_start column l b h);
  byte = λ i h. omega (arith, at_start least m i (omega arith));
  back = λ i h. at_start column l (get_or (set least 0 0) i 0) (omega (arith, at_start least m i (omega arith))) ∙ omega arith;
  low = λ b h. omega (arith, at_start least m (get_or (set column 0 0) b 0) (omega (arith, at_start column l b h)));
  up = λ i k h g. absurd (omega arith);
  whole = λ x h b g k. absurd (omega arith);
  last = λ b g k. absurd (omega arith);
}
  where
    at_start : (t : List ℕ) → 0 < length t → (i : ℕ) → i < 1 → get_or (set t 0 0) i 0 ≡ 0
    at_start t l = at_more (λ i v. v ≡ 0) t 0 0 l (λ i h. absurd (omega arith)) refl

module _ {cuts column least : List ℕ} {j n : ℕ} (D : Divided cuts column least j n) (room : n < length column) where
  -- a byte that isn't marked goes on with the column
  pub divided_on : get_or cuts n 0 ≡ 0 → Divided cuts (set column n j) least j (n + 1)
  divided_on e = record {
    few = omega (arith, D.few);
    within = at_more (λ b k. k ≤ j) column n j room D.within (omega arith);
    byte = λ i l. omega (arith, D.byte i l);
    back = λ i l. below_same column n j (get_or least i 0) (D.byte i l) ∙ D.back i l;
    low = at_more (λ b k. get_or least k 0 ≤ b) column n j room D.low (omega (arith, D.byte j (omega arith)));
    up = D.up;
    whole = at_more (λ x k. (b : ℕ) → get_or least k 0 < b → b ≤ x → get_or cuts b 0 ≡ 0) column n j room D.whole (λ b h g. last b h (omega arith));
    last = last;
  }
    where
      last : (b : ℕ) → get_or least j 0 < b → b < n + 1 → get_or cuts b 0 ≡ 0
      last b h g = ⊎_elim (λ (d : b ≡ n). ap (λ (i : ℕ). get_or cuts i 0) d ∙ e) (λ (d : b ≡ n → ⊥). D.last b h (omega arith)) (cases_eq b n)

  -- a byte that is begins the next one
  pub divided_cut : j + 1 < length least → Divided cuts (set column n (j + 1)) (set least (j + 1) n) (j + 1) (n + 1)
  divided_cut more = record {
    few = omega (arith, D.few);
    within = at_more (λ b k. k ≤ j + 1) column n (j + 1) room (λ b l. omega (arith, D.within b l)) (omega arith);
    byte = λ i l. at_more (λ i b. b < n + 1) least (j + 1) n more (λ i h. omega (arith, D.byte i (omega arith))) (omega arith) i (omega arith);
    back = λ i l. at_more (λ i b. get_or (set column n (j + 1)) b 0 ≡ i) least (j + 1) n more
        (λ i h. below_same column n (j + 1) (get_or least i 0) (D.byte i (omega arith)) ∙ D.back i (omega arith))
        (get_or-set_same column n (j + 1) 0 room) i (omega arith);
    low = at_more (λ b k. get_or (set least (j + 1) n) k 0 ≤ b) column n (j + 1) room
        (λ b l. omega (arith, old (get_or column b 0) (D.within b l), D.low b l)) (omega (arith, get_or-set_same least (j + 1) n 0 more));
    up = λ i k h l. at_more (λ k b. (i : ℕ) → i < k → get_or (set least (j + 1) n) i 0 < b) least (j + 1) n more
        (λ k g i h. omega (arith, old i (omega arith), D.up i k h (omega arith)))
        (λ i h. omega (arith, old i (omega arith), D.byte i (omega arith))) k (omega arith) i h;
    whole = at_more (λ x k. (b : ℕ) → get_or (set least (j + 1) n) k 0 < b → b ≤ x → get_or cuts b 0 ≡ 0) column n (j + 1) room
        (λ x l b h g. D.whole x l b (omega (arith, old (get_or column x 0) (D.within x l))) g)
        (λ b h g. absurd (omega (arith, get_or-set_same least (j + 1) n 0 more)));
    last = λ b h g. absurd (omega (arith, get_or-set_same least (j + 1) n 0 more));
  }
    where
      old : (i : ℕ) → i ≤ j → get_or (set least (j + 1) n) i 0 ≡ get_or least i 0
      old i l = below_same least (j + 1) n i (omega arith)

-- a range with a cut at either end doesn't divide a column
undivided : (a b x m : ℕ) → m ≤ x → (a ≤ x → a ≤ m) → (m ≤ b → x ≤ b) → (leb a x && leb x b) ≡ (leb a m && leb m b)
undivided a b x m low first last = ⊎_elim
    (λ (l : x < a). grind (arith, nat_tests))
    (λ (l : a ≤ x). let h = first l in ⊎_elim (λ (k : b < m). grind (arith, nat_tests)) (λ (k : m ≤ b). let g = last k in grind (arith, nat_tests)) (cases_lt b m))
    (cases_lt x a)

pub columns_of : {s cuts column least : List ℕ} {j : ℕ} → Marked s cuts (length s) → Divided cuts column least j 256 → ColumnsOf s (j + 1) column least
columns_of {s = s} {cuts = cuts} {column = column} {least = least} {j = j} M D = record {
  columns = record {
    few = omega (arith, D.few);
    within = λ b l. omega (arith, D.within b l);
    byte = λ i l. D.byte i (omega arith);
    back = λ i l. D.back i (omega arith);
    low = D.low;
    up = λ i k h l. D.up i k h (omega arith);
  };
  respects = λ at a b r x l.
      let m = get_or least (get_or column x 0) 0 in
      let there : at < length s = omega (arith, r.stands.within) in
      undivided a b x m (D.low x l)
      (λ (h : a ≤ x). ⊎_elim (λ (g : m < a). absurd (omega (arith, D.whole x l a g h, M.begins at there a b r))) (λ (g : a ≤ m). g) (cases_lt m a))
      (λ (h : m ≤ b). ⊎_elim (λ (g : b < x). absurd (omega (arith, D.whole x l (b + 1) (omega arith) (omega arith), M.behind at there a b r))) (λ (g : x ≤ b). g) (cases_lt b x));
}
