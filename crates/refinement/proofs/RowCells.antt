-- The cells of a row as one list: how many there are, and what stands at each place. Assumes nothing.
use Rattle.std.proofs.Common.{◌≡◌, ℕ, ◌+◌, ◌*◌, ◌<◌, List, length, get_or, take, drop, ap, ◌∙◌, arith, length-take, length-drop}
use Rattle.std.proofs.lemmas.List.{get_or_default, get_or-take, get_or-drop}
use Rattle.machines.specs.Columns.{cell}
use Rattle.machines.specs.Inside.{Inside}

abbrev pub row_cells : ℕ → List ℕ → ℕ → List ℕ
row_cells c t i = take c (drop (257 * i + 1) t)

pub length-row_cells : {c k : ℕ} {t : List ℕ} {i : ℕ} → Inside c k t → i < k → length (row_cells c t i) ≡ c
length-row_cells S l = simp (length-take, length-drop) (omega (arith, S.few, S.long))

pub at_cell : {c k : ℕ} {t : List ℕ} {i : ℕ} → Inside c k t → i < k → (a d : ℕ) → a < c → get_or (row_cells c t i) a d ≡ cell t i a
at_cell {c} {k} {t} {i} S l a d h =
    get_or_default (row_cells c t i) a d 0 (omega (arith, length-row_cells S l))
    ∙ get_or-take c (drop (257 * i + 1) t) a 0 h ∙ get_or-drop (257 * i + 1) t a 0 ∙ ap (λ z. get_or t z 0) (omega arith)

-- a place of such a list is a column in use, and what stands there is a row of the table
pub at_place : {c k : ℕ} {t xs : List ℕ} {i : ℕ} → Inside c k t → i < k → xs ≡ row_cells c t i → (a : ℕ) → a < length xs → (a < c) × ((get_or xs a 0 ≡ cell t i a) × (cell t i a < k))
at_place {c} {k} {t} {xs} {i} S l e a h =
    (in_use, (ap (λ z. get_or z a 0) e ∙ at_cell S l a 0 in_use, S.cells i l a in_use))
  where
    in_use : a < c
    in_use = omega (arith, ap length e, length-row_cells S l)
