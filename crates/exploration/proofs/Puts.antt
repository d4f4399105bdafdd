-- What a key that is written into its place leaves of the others. Assumes nothing.
use Rattle.std.proofs.Common.{◌≡◌, ℕ, ◌+◌, ◌*◌, ◌≤◌, List, ◌++◌, length, take, drop, sym, ap, ◌∙◌, arith}
use borrow.Rule.Slice.PartMut.{put_mid, post_of}
use Rattle.std.proofs.lemmas.List.{take_at, drop_at, drop-take, length-take-le}
use Rattle.std.proofs.lemmas.Slice.{take-put_mid_below}
use Rattle.exploration.specs.Keys.{Kept}
use Rattle.exploration.proofs.Products.{next_row, row_within}

pub put_kept : (ks key ys : List ℕ) (n i k : ℕ) → (i + 1) * n ≤ length ks → ys ≡ key → length key ≡ n → Kept ks (put_mid (i * n) k ks ys) n i key
put_kept ks key ys n i k h e long = record {
  here = ap (take n) (drop_at (take a ks) (ys ++ post_of a k ks) a (length-take-le a ks fits)) ∙ take_at ys (post_of a k ks) n (ap length e ∙ long) ∙ e;
  before = λ j l. sym (drop-take (j * n) n (put_mid a k ks ys)) ∙ ap (drop (j * n)) (take-put_mid_below a k ks ys (j * n + n) (row_within j i n l) fits) ∙ drop-take (j * n) n ks;
}
  where
    a : ℕ
    a = i * n

    fits : a ≤ length ks
    fits = omega (arith, next_row i n)
