-- Pairs of rows lead where the two tables lead, and bytes of one column lead to one pair. Assumes nothing.
use Rattle.std.proofs.Common.{◌≡◌, ℕ, ◌<◌, ◌↔◌, List, [], ◌∷◌, length, get_or, set, take, drop, ◌+◌, ◌*◌, sym, refl, ap, ◌∙◌, arith}
use Rattle.std.proofs.lemmas.List.{places}
use Rattle.machines.specs.Words.{Word, Bytes}
use Rattle.machines.specs.Machines.{run}
use Rattle.machines.specs.Columns.{Columns, cell, shown, leads}
use Rattle.machines.specs.Inside.{Inside}
use Rattle.machines.specs.Minimal.{Gives}
use Rattle.machines.specs.Systems.{reach, Lawful}
use Rattle.exploration.specs.Pairs.{pair_next, pair_shows, PairKey}
use Rattle.exploration.specs.Exploring.{Complete}
use Rattle.exploration.proofs.Explored.{complete_gives}

-- both numbers of a key of two are written
pub set_two : (xs : List ℕ) (x y : ℕ) → length xs ≡ 2 → set (set xs 0 x) 1 y ≡ x ∷ y ∷ []
set_two [] x y h = absurd (omega arith)
set_two (a ∷ []) x y h = absurd (omega arith)
set_two (a ∷ b ∷ []) x y h = refl
set_two (a ∷ b ∷ c ∷ xs) x y h = absurd (omega arith)

cell_of : (t : List ℕ) (i c j : ℕ) → j < c → get_or (take c (drop (257 * i + 1) t)) j 0 ≡ cell t i j
cell_of t i c j h = grind (arith, places)

-- a column is stepped as its least byte
pub step_least : (l r : List ℕ) {c : ℕ} {column least : ℕ → ℕ} → Columns c column least → (k : List ℕ) (j : ℕ) → j < c → cell l (get_or k 0 0) j ∷ cell r (get_or k 1 0) j ∷ [] ≡ pair_next column l r k (least j)
step_least l r columns k j h = ap (λ z. cell l (get_or k 0 0) z ∷ cell r (get_or k 1 0) z ∷ []) (sym (columns.back j h))

-- through the cells of both rows
pub step_cells : (l r : List ℕ) {c : ℕ} {column least : ℕ → ℕ} → Columns c column least → (k out xs ys : List ℕ) (m n j : ℕ) → xs ≡ take m (drop (257 * get_or k 0 0 + 1) l) → ys ≡ take n (drop (257 * get_or k 1 0 + 1) r)
    → m ≡ c → n ≡ c → j < c → length out ≡ 2 → set (set out 0 (get_or xs j 0)) 1 (get_or ys j 0) ≡ pair_next column l r k (least j)
step_cells l r columns k out xs ys m n j e d p q h long =
    set_two out (get_or xs j 0) (get_or ys j 0) long
    ∙ ap (λ z. z ∷ get_or ys j 0 ∷ []) (ap (λ z. get_or z j 0) e ∙ cell_of l (get_or k 0 0) m j (omega arith))
    ∙ ap (λ z. cell l (get_or k 0 0) j ∷ z ∷ []) (ap (λ z. get_or z j 0) d ∙ cell_of r (get_or k 1 0) n j (omega arith))
    ∙ step_least l r columns k j h

pub pair_lawful : {c m n : ℕ} {column least : ℕ → ℕ} {l r : List ℕ} → Columns c column least → Inside c m l → Inside c n r → Lawful (0 ∷ 0 ∷ []) (pair_next column l r) (PairKey m n) 2 column least
pair_lawful {column = column} {l = l} {r = r} columns a b = record {
  starts = record { two = refl; left = a.some; right = b.some };
  stays = λ k x g h. record {
    two = refl;
    left = a.cells (get_or k 0 0) g.left (column x) (columns.within x h);
    right = b.cells (get_or k 1 0) g.right (column x) (columns.within x h);
  };
  wide = λ k g. g.two;
  alike = λ k x g h. step_least l r columns k (column x) (columns.within x h);
}

module _ (column : ℕ → ℕ) (l r : List ℕ) where
  pub pair_reach : (w : Word) (i j : ℕ) → reach (pair_next column l r) (i ∷ j ∷ []) w ≡ run (leads column l) i w ∷ run (leads column r) j w ∷ []
  pair_reach [] i j = refl
  pair_reach (b ∷ w) i j = pair_reach w (leads column l i b) (leads column r j b)

  -- what two tables give, their pairs show together, whatever is made of the two outputs
  pub pair_gives : (h : ℕ → ℕ → ℕ) (f g : Word → ℕ) → Gives f (leads column l) (shown l) → Gives g (leads column r) (shown r)
      → (w : Word) → Bytes w → pair_shows h l r (reach (pair_next column l r) (0 ∷ 0 ∷ []) w) ≡ h (f w) (g w)
  pair_gives h f g p q w o = ap (pair_shows h l r) (pair_reach w 0 0) ∙ ap (λ z. h z (shown r (run (leads column r) 0 w))) (p w o) ∙ ap (h (f w)) (q w o)

  -- two words lead to one pair exactly if they lead to one row in each table
  pub pair_same : (u v : Word)
      → (reach (pair_next column l r) (0 ∷ 0 ∷ []) u ≡ reach (pair_next column l r) (0 ∷ 0 ∷ []) v)
      ↔ ((run (leads column l) 0 u ≡ run (leads column l) 0 v) × (run (leads column r) 0 u ≡ run (leads column r) 0 v))
  pair_same u v = (
    λ e. let q = sym (pair_reach u 0 0) ∙ e ∙ pair_reach v 0 0 in (ap (λ k. get_or k 0 0) q, ap (λ k. get_or k 1 0) q),
    λ e. pair_reach u 0 0 ∙ ap (λ i. i ∷ run (leads column r) 0 u ∷ []) e.0 ∙ ap (λ i. run (leads column l) 0 v ∷ i ∷ []) e.1 ∙ sym (pair_reach v 0 0),
  )

  -- and the table of the pairs gives what the two tables give together
  pub pair_complete : (h : ℕ → ℕ → ℕ) (f g : Word → ℕ) {count n most k : ℕ} {ks t : List ℕ} → Gives f (leads column l) (shown l) → Gives g (leads column r) (shown r)
      → Complete (pair_next column l r) (0 ∷ 0 ∷ []) (pair_shows h l r) column count n most k ks t → Gives (λ w. h (f w) (g w)) (leads column t) (shown t)
  pair_complete h f g p q c = complete_gives c (λ w. h (f w) (g w)) (pair_gives h f g p q)
