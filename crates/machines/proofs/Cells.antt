-- What stands in a list, as an option and with a default, and a sound table said in either way. Assumes nothing.
use Rattle.std.proofs.Common.{◌≡◌, ℕ, zero, suc, ◌+◌, ◌-◌, ◌*◌, ◌<◌, ◌≤◌, List, [], ◌∷◌, length, get_or, take, drop, sym, refl, ap, ◌∙◌, subst, arith, All, IsTrue, MatchBool, Bool, true, false, ◌↔◌}
use mathlib.Core.Option.{some}
use Rattle.std.proofs.lemmas.List.{places, length-take, length-drop, get_or-take, get_or-drop}
use Rattle.machines.specs.Classes.{nth}
use Rattle.machines.specs.Tables.{SoundTable, LeadsInside, or0}
use Rattle.std.specs.List.{range_with_len, HoldsAt, AllWithin}
use Rattle.std.proofs.lemmas.Bool.{both_ways}
use Rattle.std.proofs.lemmas.List.Elements.{All-get_or, All-from_get_or}
use Rattle.std.proofs.lemmas.List.FromFn.{length-range_with_len, get_or-range_with_len}
use Rattle.machines.specs.Columns.{cell}
use Rattle.machines.proofs.Places.{nth_read}

pub or0_nth : (t : List ℕ) (p : ℕ) → or0 (nth t p) ≡ get_or t p 0
or0_nth [] p = refl
or0_nth (x ∷ xs) zero = refl
or0_nth (x ∷ xs) (suc n) = or0_nth xs n

pub nth_get_or : (t : List ℕ) (p : ℕ) → p < length t → nth t p ≡ some (get_or t p 0)
nth_get_or t p h = nth_read t 0 p h

-- a cell of a row that is read as a part of the table
pub row_cell : (t : List ℕ) (from p : ℕ) → p < 257 → get_or (take 257 (drop from t)) p 0 ≡ get_or t (from + p) 0
row_cell t from p h = get_or-take 257 (drop from t) p 0 h ∙ get_or-drop from t p 0

pub row_long : (i : ℕ) (t : List ℕ) → 257 * i + 257 ≤ length t → length (take (257 * i + 257 - 257 * i) (drop (257 * i) t)) ≡ 257
row_long i t h = simp (length-take, length-drop) (omega arith)

pub inside_sound : (k : ℕ) (t : List ℕ) → length t ≡ 257 * k → LeadsInside k t → SoundTable k t
inside_sound k t e f = record {
  long = e;
  goes = λ i b j hi hb h. let g : get_or t (257 * i + (1 + b)) 0 ≡ j = sym (or0_nth t (257 * i + (1 + b))) ∙ ap or0 h in omega (arith, f i hi b hb);
}

pub sound_inside : (k : ℕ) (t : List ℕ) → SoundTable k t → LeadsInside k t
sound_inside k t s i hi b hb = s.goes i b (get_or t (257 * i + (1 + b)) 0) hi hb (nth_get_or t (257 * i + (1 + b)) (omega (arith, s.long)))

-- the first cells of a row, read as a part of the table
pub row_cells : (t : List ℕ) (i c j : ℕ) → j < c → get_or (take ((257 * i + 1 + c) - (257 * i + 1)) (drop (257 * i + 1) t)) j 0 ≡ cell t i j
row_cells t i c j h = grind (arith, places)

pub cells_all : (t : List ℕ) (i c k : ℕ) → 257 * i + 257 ≤ length t → c ≤ 256
    → All (λ to. to < k) (take ((257 * i + 1 + c) - (257 * i + 1)) (drop (257 * i + 1) t)) → (j : ℕ) → j < c → cell t i j < k
cells_all t i c k h few all j l =
    subst (λ x. x < k) (row_cells t i c j l) (All-get_or (λ to. to < k) _ j 0 (omega (arith, long)) all)
  where
    long : length (take ((257 * i + 1 + c) - (257 * i + 1)) (drop (257 * i + 1) t)) ≡ c
    long = simp (length-take, length-drop) (omega arith)

pub all_cells : (t : List ℕ) (i c k : ℕ) → 257 * i + 257 ≤ length t → c ≤ 256 → ((j : ℕ) → j < c → cell t i j < k)
    → All (λ to. to < k) (take ((257 * i + 1 + c) - (257 * i + 1)) (drop (257 * i + 1) t))
all_cells t i c k h few each =
    All-from_get_or (λ to. to < k) _ 0 (λ j l. subst (λ x. x < k) (sym (row_cells t i c j (omega (arith, long)))) (each j (omega (arith, long))))
  where
    long : length (take ((257 * i + 1 + c) - (257 * i + 1)) (drop (257 * i + 1) t)) ≡ c
    long = simp (length-take, length-drop) (omega arith)

-- the first cells of row i, as a part of the table
abbrev pub first_cells : List ℕ → ℕ → ℕ → List ℕ
first_cells t c i = take ((257 * i + 1 + c) - (257 * i + 1)) (drop (257 * i + 1) t)

-- what a look at the rows below k says
pub rows_all : (t : List ℕ) (c k : ℕ) (r : Bool) → 257 * k ≤ length t → c ≤ 256
    → MatchBool r (AllWithin (λ i. All (λ to. to < k) (first_cells t c i)) (range_with_len 0 k) 0 (length (range_with_len 0 k)))
    ((i : ℕ) × (i < length (range_with_len 0 k)) × HoldsAt (λ i. All (λ to. to < k) (first_cells t c i) → ⊥) (range_with_len 0 k) i)
    → IsTrue r ↔ ((i : ℕ) → i < k → (j : ℕ) → j < c → cell t i j < k)
rows_all t c k true room few all = (
  λ e i l. cells_all t i c k (omega arith) few (subst (λ x. All (λ to. to < k) (first_cells t c x)) (at i l) (all i 0 (omega arith) (omega (arith, length-range_with_len 0 k)))),
  λ each. refl,
)
  where
    at : (i : ℕ) → i < k → get_or (range_with_len 0 k) i 0 ≡ i
    at i l = get_or-range_with_len 0 k i 0 l ∙ omega arith
rows_all t c k false room few (i, l, other) = (
  λ e. absurd (both_ways false refl e),
  λ each. absurd (other 0 (subst (λ x. All (λ to. to < k) (first_cells t c x)) (sym at) (all_cells t i c k (omega (arith, low)) few (each i low)))),
)
  where
    low : i < k
    low = omega (arith, length-range_with_len 0 k)

    at : get_or (range_with_len 0 k) i 0 ≡ i
    at = get_or-range_with_len 0 k i 0 low ∙ omega arith
