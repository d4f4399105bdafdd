-- Each kind of part tells finitely many classes apart if its parts leave finitely many things; so every sound pattern leaves
-- finitely many, and fits into some number of classes. Assumes nothing.
use Rattle.std.proofs.Common.{◌≡◌, ℕ, zero, suc, ◌+◌, ◌*◌, ◌/◌, ◌^◌, ◌<◌, ◌≤◌, Bool, true, false, cond, not, ◌&&◌, eqb, ltb, leb, ◌↔◌, List, [], ◌∷◌, ◌++◌, length, get_or, drop, Option, sym, refl, ap, ◌∙◌, subst, arith}
use Rattle.std.proofs.lemmas.Bool.{and_parts, ltb-true, leb-true}
use Rattle.machines.specs.Words.{Word, Bytes}
use Rattle.machines.specs.Machines.{run}
use Rattle.machines.specs.Columns.{leads}
use Rattle.machines.specs.Systems.{Key, reach}
use Rattle.machines.proofs.Nerode.{nerode_append}
use Rattle.machines.proofs.Relating.{classes_related}
use Rattle.machines.proofs.Firsts.{numbered_below}
use Rattle.refinement.specs.DeadRows.{DeadRow}
use Rattle.exploration.specs.declared.pairs.Connective.{Connective}
use Rattle.exploration.specs.declared.pairs.Connective.TheVariants.{Or, And}
use Rattle.exploration.specs.Pairs.{joined, pair_next, pair_shows}
use Rattle.exploration.proofs.Paired.{pair_reach}
use Rattle.subsets.specs.Sets.{followed, unread, follow_shows, again, whole}
use Rattle.subsets.proofs.SetBits.{Small}
use Rattle.patterns.specs.Patterns.{Pattern, nothing, empty, range, seq, union, inter, compl, star, matches}
use Rattle.patterns.specs.Residuals.{Of, SameResidual}
use Rattle.patterns.specs.Sizes.{Top, Fits}
use Rattle.patterns.specs.Lists.{sound}
use Rattle.patterns.specs.Searching.{bit}
use Rattle.parts.specs.declared.leaf.Leaf.{Leaf}
use Rattle.parts.specs.declared.leaf.Leaf.TheVariants.{Nothing, Empty, Range}
use Rattle.parts.specs.Leaves.{leaf_pattern, leaf_next, leaf_shows, leaf_step, SoundLeaf}
use Rattle.parts.specs.Combining.{joined_pattern}
use Rattle.parts.specs.Steps.{Finished}
use Rattle.parts.specs.Told.{Left, PartsTell}
use Rattle.parts.proofs.Keyed.{residual_nerode, both_true}
use Rattle.parts.proofs.Leaves.{leaf_keyed, leaf_says}
use Rattle.parts.proofs.Pairs.{connected_keyed, connected_says}
use Rattle.parts.proofs.Behinds.{kept_along}
use Rattle.parts.proofs.Sequences.{seq_key, seq_keyed, seq_says}
use Rattle.parts.proofs.Repetitions.{star_key, star_keyed, star_says}
use Rattle.parts.proofs.Bounded.{Within}
use Rattle.parts.proofs.Leaving.{Works, bounded_works, each_byte, left_finished, has_dead_row}

-- a pattern without parts has at most three states
next_low : (l : Leaf) (i x : ℕ) → leaf_next l i x < 3
next_low Nothing i x = omega arith
next_low Empty i x = omega arith
next_low (Range a b) i x = late (eqb i 0) (leb a x && leb x b)
  where
    late : (g h : Bool) → cond g (cond h 1 2) 2 < 3
    late true true = omega arith
    late true false = omega arith
    late false h = omega arith

one_low : (B x : ℕ) → x < B → Within B 1 (x ∷ [])
one_low B x l = record { long = refl; low = at }
  where
    at : (i : ℕ) → get_or (x ∷ []) i 0 < B
    at zero = l
    at (suc i) = omega arith

leaf_works : (l : Leaf) → SoundLeaf l → Works (leaf_pattern l)
leaf_works l s = bounded_works (λ k. leaf_shows l (get_or k 0 0)) 3 1 (leaf_keyed l s) (leaf_says l)
    (λ w ok. kept_along (leaf_step l) (λ k u. Within 3 1 k) (λ k u b _ _ _. one_low 3 (leaf_next l (get_or k 0 0) b) (next_low l (get_or k 0 0) b)) w [] (0 ∷ []) tt ok (one_low 3 0 (omega arith)))

-- a row of each table
module _ {p q : Pattern} {m n : ℕ} {l r : List ℕ} (F : Finished (λ b. b) p m l) (G : Finished (λ b. b) q n r) where
  pair_low : (w : Word) → Bytes w → Within (m + n) 2 (reach (pair_next (λ b. b) l r) (0 ∷ 0 ∷ []) w)
  pair_low w ok = subst (Within (m + n) 2) (sym (pair_reach (λ b. b) l r w 0 0)) (record { long = refl; low = at })
    where
      at : (i : ℕ) → get_or (run (leads (λ b. b) l) 0 w ∷ run (leads (λ b. b) r) 0 w ∷ []) i 0 < m + n
      at zero = omega (arith, numbered_below F.minimal.numbered w ok)
      at (suc zero) = omega (arith, numbered_below G.minimal.numbered w ok)
      at (suc (suc i)) = omega (arith, F.minimal.numbered.some)

  connected_finished : (j : Connective) → Works (joined_pattern j p q)
  connected_finished j = bounded_works (pair_shows (joined j) l r) (m + n) 2 (connected_keyed F G j) (connected_says F G j) pair_low

connected_works : (j : Connective) (p q : Pattern) → Left p → Left q → Works (joined_pattern j p q)
connected_works j p q a b = connected_finished (left_finished p a).2 (left_finished q b).2 j

-- a small number and the words of a set
set_low : (k : Key) (h m : ℕ) → k ≡ get_or k 0 0 ∷ drop 1 k → get_or k 0 0 < h → length (drop 1 k) ≡ m → Small (drop 1 k) → Within (h + 2 ^ 32) (1 + m) k
set_low k h m e l long small = subst (Within (h + 2 ^ 32) (1 + m)) (sym e) (record { long = omega arith; low = at })
  where
    at : (i : ℕ) → get_or (get_or k 0 0 ∷ drop 1 k) i 0 < h + 2 ^ 32
    at zero = omega arith
    at (suc i) = omega (arith, small i)

-- so many words have a bit for each of n rows
words : ℕ → ℕ
words n = n / 32 + 1

room : (n : ℕ) → n ≤ 32 * words n
unfolding words
room n = omega arith

module _ {p q : Pattern} {l n : ℕ} {d : Option ℕ} {s t : List ℕ} (F : Finished (λ b. b) p l s) (G : Finished (λ b. b) q n t) (D : DeadRow 256 n t d) where
  seq_low : (w : Word) → Bytes w → Within (l + 2 ^ 32) (1 + words n) (reach (λ k b. followed s t d (words n) n k b) (unread s d (words n)) w)
  seq_low w ok =
      let K = seq_key (words n) each_byte F G D (room n) w ok in
      let h = numbered_below F.minimal.numbered w ok in
      set_low (reach (λ k b. followed s t d (words n) n k b) (unread s d (words n)) w) l (words n) K.shape (omega (arith, K.head)) K.rest.long K.rest.small

  seq_finished_works : Works (seq p q)
  seq_finished_works = bounded_works (follow_shows t n) (l + 2 ^ 32) (1 + words n)
      (seq_keyed (words n) each_byte F G D (room n)) (seq_says (words n) each_byte F G D (room n)) seq_low

seq_works : (p q : Pattern) → Left p → Left q → Works (seq p q)
seq_works p q a b = let G = (left_finished q b).2 in seq_finished_works (left_finished p a).2 G (has_dead_row G.minimal).1

bit_low : (b : Bool) → bit b < 2
bit_low true = omega arith
bit_low false = omega arith

module _ {p : Pattern} {n : ℕ} {d : Option ℕ} {t : List ℕ} (F : Finished (λ b. b) p n t) (D : DeadRow 256 n t d) where
  star_low : (w : Word) → Bytes w → Within (2 + 2 ^ 32) (1 + words n) (reach (λ k b. again t d (words n) n k b) (whole d (words n)) w)
  star_low w ok =
      let K = star_key (words n) each_byte F D (room n) w ok in
      set_low (reach (λ k b. again t d (words n) n k b) (whole d (words n)) w) 2 (words n) K.shape (omega (arith, K.head, bit_low (matches (star p) w))) K.rest.long K.rest.small

  star_finished_works : Works (star p)
  star_finished_works = bounded_works (λ k. get_or k 0 0) (2 + 2 ^ 32) (1 + words n)
      (star_keyed (words n) each_byte F D (room n)) (star_says (words n) each_byte F D (room n)) star_low

star_works : (p : Pattern) → Left p → Works (star p)
star_works p a = let F = (left_finished p a).2 in star_finished_works F (has_dead_row F.minimal).1

-- not p leaves the same where p does
not_same : (a b : Bool) → not a ≡ not b → a ≡ b
not_same true true e = refl
not_same false false e = refl
not_same true false e = sym e
not_same false true e = sym e

residual_not : (p : Pattern) (u v : Word) → SameResidual (Of p) u v ↔ SameResidual (Of (compl p)) u v
residual_not p u v = (
  λ e x ok. let h = ap not (both_true (matches p (u ++ x)) (matches p (v ++ x)) (e x ok)) in ((λ a. sym h ∙ a), (λ a. h ∙ a)),
  λ e x ok.
      let h = not_same (matches p (u ++ x)) (matches p (v ++ x)) (both_true (not (matches p (u ++ x))) (not (matches p (v ++ x))) (e x ok)) in
      ((λ a. sym h ∙ a), (λ a. h ∙ a)),
)

residual_push : (p : Pattern) (u v : Word) (b : ℕ) → b < 256 → SameResidual (Of p) u v → SameResidual (Of p) (u ++ b ∷ []) (v ++ b ∷ [])
residual_push p u v b l e =
    (residual_nerode p (u ++ b ∷ []) (v ++ b ∷ [])).1 (nerode_append (λ w. bit (matches p w)) u v (b ∷ []) (l, tt) ((residual_nerode p u v).0 e))

compl_works : (p : Pattern) → Left p → Works (compl p)
compl_works p (firsts, cs) = record {
  told = record { finite = (firsts, cs); steps = λ u v b _ _ l e. residual_push p u v b l e };
  left = (firsts, classes_related (λ u v _ _. residual_not p u v) cs);
}

range_sound : (a b : ℕ) → sound (range a b) ≡ true → SoundLeaf (Range a b)
range_sound a b s = let h = and_parts (ltb b 256) (leb a b) s in (leb-true a b h.1, ltb-true b 256 h.0)

works : (p : Pattern) → sound p ≡ true → Works p
works nothing s = leaf_works Nothing tt
works empty s = leaf_works Empty tt
works (range a b) s = leaf_works (Range a b) (range_sound a b s)
works (seq p q) s = let h = and_parts (sound p) (sound q) s in seq_works p q (works p h.0).left (works q h.1).left
works (union p q) s = let h = and_parts (sound p) (sound q) s in connected_works Or p q (works p h.0).left (works q h.1).left
works (inter p q) s = let h = and_parts (sound p) (sound q) s in connected_works And p q (works p h.0).left (works q h.1).left
works (compl p) s = compl_works p (works p s).left
works (star p) s = star_works p (works p s).left

-- what fits into m fits into more
top_more : (p : Pattern) (m n : ℕ) → m ≤ n → Top m p → Top n p
top_more p m n l (firsts, cs, few) = (firsts, cs, omega arith)

fits_more : (p : Pattern) (m n : ℕ) → m ≤ n → Fits m p → Fits n p
fits_more nothing m n l f = top_more nothing m n l f
fits_more empty m n l f = top_more empty m n l f
fits_more (range a b) m n l f = top_more (range a b) m n l f
fits_more (seq p q) m n l (f, g, t) = (fits_more p m n l f, fits_more q m n l g, top_more (seq p q) m n l t)
fits_more (union p q) m n l (f, g, t) = (fits_more p m n l f, fits_more q m n l g, top_more (union p q) m n l t)
fits_more (inter p q) m n l (f, g, t) = (fits_more p m n l f, fits_more q m n l g, top_more (inter p q) m n l t)
fits_more (compl p) m n l f = fits_more p m n l f
fits_more (star p) m n l (f, t) = (fits_more p m n l f, top_more (star p) m n l t)

tops : (p : Pattern) → Works p → (n : ℕ) × Top n p
tops p W = let f = W.told.finite in (length f.0, (f.0, f.1, omega arith))

abbrev Both : Pattern → Pattern → Pattern → Type 0
Both p q r = (n : ℕ) × (Fits n p × Fits n q × Top n r)

both_fit : (p q r : Pattern) → (n : ℕ) × Fits n p → (n : ℕ) × Fits n q → (n : ℕ) × Top n r → Both p q r
both_fit p q r (a, f) (b, g) (c, t) = (a + b + c, (fits_more p a (a + b + c) (omega arith) f, fits_more q b (a + b + c) (omega arith) g, top_more r c (a + b + c) (omega arith) t))

fits : (p : Pattern) → sound p ≡ true → (n : ℕ) × Fits n p
fits nothing s = tops nothing (works nothing s)
fits empty s = tops empty (works empty s)
fits (range a b) s = tops (range a b) (works (range a b) s)
fits (seq p q) s = let h = and_parts (sound p) (sound q) s in both_fit p q (seq p q) (fits p h.0) (fits q h.1) (tops (seq p q) (works (seq p q) s))
fits (union p q) s = let h = and_parts (sound p) (sound q) s in both_fit p q (union p q) (fits p h.0) (fits q h.1) (tops (union p q) (works (union p q) s))
fits (inter p q) s = let h = and_parts (sound p) (sound q) s in both_fit p q (inter p q) (fits p h.0) (fits q h.1) (tops (inter p q) (works (inter p q) s))
fits (compl p) s = fits p s
fits (star p) s = let h = both_fit p p (star p) (fits p s) (fits p s) (tops (star p) (works (star p) s)) in (h.0, (h.1.0, h.1.2))

pub parts_tell_lem : PartsTell
parts_tell_lem = record {
  of_nothing = (leaf_works Nothing tt).told;
  of_empty = (leaf_works Empty tt).told;
  of_range = λ a b l m. (leaf_works (Range a b) (l, m)).told;
  of_sequence = λ p q a b. (seq_works p q a b).told;
  of_union = λ p q a b. (connected_works Or p q a b).told;
  of_intersection = λ p q a b. (connected_works And p q a b).told;
  of_complement = λ p a. (compl_works p a).told;
  of_star = λ p a. (star_works p a).told;
  left = λ p s. (works p s).left;
  fits = fits;
}
