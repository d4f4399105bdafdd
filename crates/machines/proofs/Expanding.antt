-- Rows written one by one with a cell for each byte, and the machine that they are then. Assumes nothing.
use Rattle.std.proofs.Common.{◌≡◌, ℕ, ◌+◌, ◌-◌, ◌*◌, ◌<◌, ◌≤◌, List, length, get_or, take, drop, set, sym, ap, ◌∙◌, subst, arith, below_more}
use borrow.Rule.Slice.PartMut.{put_mid}
use Rattle.std.proofs.lemmas.List.{places, get_or-take, get_or-set_same, get_or-set_other, drop-drop}
use Rattle.std.proofs.lemmas.Slice.{drop-put_mid}
use Rattle.machines.specs.Columns.{cell, shown}
use Rattle.machines.specs.Expanding.{RowExpanded, Expanded}
use Rattle.machines.proofs.Cells.{row_cell}
use Rattle.machines.proofs.Likewise.{minimal_like}

-- the bytes below b of a row
pub record RowPartly (column : ℕ → ℕ) (r r' : List ℕ) (b : ℕ) : Type 0 where
  pub shows : get_or r' 0 0 ≡ get_or r 0 0
  pub on : (a : ℕ) → a < b → get_or r' (1 + a) 0 ≡ get_or r (1 + column a) 0

pub row_more : {column : ℕ → ℕ} {r r' : List ℕ} {b x : ℕ} → 1 + b < length r' → x ≡ get_or r (1 + column b) 0 → RowPartly column r r' b
    → RowPartly column r (set r' (1 + b) x) (b + 1)
row_more {column = column} {r = r} {r' = r'} {b = b} {x = x} h e P = record {
  shows = get_or-set_other r' (1 + b) 0 x 0 (omega arith) ∙ P.shows;
  on = below_more (λ a. get_or (set r' (1 + b) x) (1 + a) 0 ≡ get_or r (1 + column a) 0) b
      (λ a l. get_or-set_other r' (1 + b) (1 + a) x 0 (omega arith) ∙ P.on a l)
      (get_or-set_same r' (1 + b) x 0 h ∙ e);
}

-- the rows below k of a table
pub record PartlyExpanded (column : ℕ → ℕ) (k : ℕ) (raw t t' : List ℕ) : Type 0 where
  pub shows : (i : ℕ) → i < k → shown t' i ≡ shown raw i
  pub on : (i : ℕ) → i < k → (b : ℕ) → b < 256 → cell t' i b ≡ cell raw i (column b)
  pub rest : drop (257 * k) t' ≡ drop (257 * k) t

pub expanded_more : {column : ℕ → ℕ} {raw t t' r : List ℕ} {k : ℕ} (row : List ℕ) → r ≡ take 257 (drop (257 * k) raw) → ((b : ℕ) → b < 256 → column b < 256) → 257 * k + 257 ≤ length t'
    → length row ≡ 257 → RowExpanded column r row → PartlyExpanded column k raw t t'
    → PartlyExpanded column (k + 1) raw t (put_mid (257 * k) (257 * k + 257 - 257 * k) t' row)
expanded_more {column = column} {raw = raw} {t = t} {t' = t'} {r = r} {k = k} row e within room long R P = record {
  shows = below_more (λ i. shown u i ≡ shown raw i) k
      (λ i l. before (257 * i) (omega arith) ∙ P.shows i l)
      (ap (λ p. get_or u p 0) first ∙ here 0 (omega arith) ∙ R.shows ∙ there 0 (omega arith) ∙ ap (λ p. get_or raw p 0) (sym first));
  on = below_more (λ i. (b : ℕ) → b < 256 → cell u i b ≡ cell raw i (column b)) k
      (λ i l b m. before (257 * i + (1 + b)) (omega arith) ∙ P.on i l b m)
      (λ b m. here (1 + b) (omega arith) ∙ R.on b m ∙ there (1 + column b) (omega (arith, within b m)));
  rest = drop-put_mid (257 * k) (257 * k + 257 - 257 * k) t' row (257 * (k + 1)) (omega arith) (omega arith) (omega arith) ∙ on_to t' ∙ ap (drop 257) P.rest ∙ sym (on_to t);
}
  where
    u : List ℕ
    u = put_mid (257 * k) (257 * k + 257 - 257 * k) t' row

    first : 257 * k ≡ 257 * k + 0
    first = omega arith

    next : 257 * (k + 1) ≡ 257 * k + 257
    next = omega arith

    on_to : (s : List ℕ) → drop (257 * (k + 1)) s ≡ drop 257 (drop (257 * k) s)
    on_to s = ap (λ n. drop n s) next ∙ sym (drop-drop 257 (257 * k) s)

    before : (p : ℕ) → p < 257 * k → get_or u p 0 ≡ get_or t' p 0
    before p l = grind (arith, places)

    here : (p : ℕ) → p < 257 → get_or u (257 * k + p) 0 ≡ get_or row p 0
    here p l = grind (arith, places)

    there : (p : ℕ) → p < 257 → get_or r p 0 ≡ get_or raw (257 * k + p) 0
    there p l = ap (λ s. get_or s p 0) e ∙ row_cell raw (257 * k) p l

pub expanded_all : {column : ℕ → ℕ} {raw t t' : List ℕ} {i k : ℕ} → i ≡ k → PartlyExpanded column i raw t t' → Expanded column k raw t t'
expanded_all {column = column} {raw = raw} {t = t} {t' = t'} {k = k} e partly = record {
  shows = P.shows;
  on = P.on;
  rest = P.rest;
  minimal = λ f. minimal_like
      (λ i b l m. get_or-take (257 * k) t' (257 * i + (1 + b)) 0 (omega arith) ∙ P.on i l b m)
      (λ i l. get_or-take (257 * k) t' (257 * i) 0 (omega arith) ∙ P.shows i l);
}
  where
    P : PartlyExpanded column k raw t t'
    P = subst (λ n. PartlyExpanded column n raw t t') e partly
