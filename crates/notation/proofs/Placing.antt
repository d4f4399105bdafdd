-- Lines and columns, one byte after the other. Assumes nothing.
--   Counted front i line column   the first i bytes are counted
use Rattle.std.proofs.Common.{◌≡◌, ℕ, ◌+◌, ◌<◌, ◌≤◌, cond, List, length, get_or, drop, sym, ap, ◌∙◌, arith, eq-eqb, ne_eqb}
use Rattle.std.proofs.lemmas.List.{at_drop_more, at_drop_all}
use Rattle.notation.specs.Places.{line_from, column_from, line_of, column_of}

pub record Counted (front : List ℕ) (i line column : ℕ) : Type 0 where
  pub lines : line_from line (drop i front) ≡ line_of front
  pub columns : column_from column (drop i front) ≡ column_of front
  pub line_most : line ≤ 1 + i
  pub column_most : column ≤ 1 + i
