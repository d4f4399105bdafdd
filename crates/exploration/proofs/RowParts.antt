-- A row as a part of a table: what is written through it is written into the table, and nothing behind it. Assumes nothing.
use Rattle.std.proofs.Common.{◌≡◌, ℕ, ◌+◌, ◌-◌, ◌*◌, ◌<◌, ◌≤◌, List, ◌++◌, length, take, drop, set, sym, ap, ◌∙◌, arith}
use borrow.Rule.Slice.PartMut.{put_mid, post_of, put_same, same_len_mid}
use Rattle.std.proofs.lemmas.List.{set-append_left, set-append_right, length-take-le}
use Rattle.std.proofs.lemmas.Slice.{drop-put_mid}
use Rattle.machines.proofs.Cells.{row_long}

-- the table with other cells in a row
abbrev pub with_row : ℕ → List ℕ → List ℕ → List ℕ
with_row i t cells = put_mid (257 * i) (257 * i + 257 - 257 * i) t cells

pub row_set : (i : ℕ) (t cells : List ℕ) (p v : ℕ) → p < length cells → 257 * i ≤ length t → with_row i t (set cells p v) ≡ set (with_row i t cells) (257 * i + p) v
row_set i t cells p v h w = sym (
    set-append_right (take (257 * i) t) (cells ++ post_of (257 * i) (257 * i + 257 - 257 * i) t) (257 * i) (257 * i + p) v (length-take-le (257 * i) t w) (omega arith)
    ∙ ap (λ z. take (257 * i) t ++ set (cells ++ post_of (257 * i) (257 * i + 257 - 257 * i) t) z v) back
    ∙ ap (λ z. take (257 * i) t ++ z) (set-append_left cells (post_of (257 * i) (257 * i + 257 - 257 * i) t) p v h))
  where
    back : 257 * i + p - 257 * i ≡ p
    back = omega arith

-- its own cells leave it as it is, and the first of them is at the row's place
pub row_same : (i : ℕ) (t : List ℕ) → with_row i t (take (257 * i + 257 - 257 * i) (drop (257 * i) t)) ≡ t
row_same i t = put_same (257 * i) (257 * i + 257 - 257 * i) t

pub row_first : (i : ℕ) (t : List ℕ) (v : ℕ) → 0 < length (take (257 * i + 257 - 257 * i) (drop (257 * i) t)) → 257 * i ≤ length t → set t (257 * i) v ≡ with_row i t (set (take (257 * i + 257 - 257 * i) (drop (257 * i) t)) 0 v)
row_first i t v h w = ap (λ z. set t z v) zero_on ∙ ap (λ z. set z (257 * i + 0) v) (sym (row_same i t)) ∙ sym (row_set i t (take (257 * i + 257 - 257 * i) (drop (257 * i) t)) 0 v h w)
  where
    zero_on : 257 * i ≡ 257 * i + 0
    zero_on = omega arith

pub row_wide : (i : ℕ) (t cells : List ℕ) → length cells ≡ 257 → 257 * i + 257 ≤ length t → length (with_row i t cells) ≡ length t
row_wide i t cells e h = same_len_mid (257 * i) (257 * i + 257 - 257 * i) t cells (e ∙ sym (row_long i t h))

pub row_behind : (i most : ℕ) (t cells : List ℕ) → i < most → length cells ≡ 257 → 257 * i ≤ length t → drop (257 * most) (with_row i t cells) ≡ drop (257 * most) t
row_behind i most t cells h e w = drop-put_mid (257 * i) (257 * i + 257 - 257 * i) t cells (257 * most) (omega arith) w (omega arith)
