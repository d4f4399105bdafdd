-- What is known of a list before it is worked out. Assumes nothing.
--   Planned s ends tables c column least    of the list s: the extents of its patterns, and columns that its ranges respect
use Rattle.std.specs.Prelude.{ℕ, ◌≤◌, List, length}
use Rattle.plans.specs.Dividing.{ColumnsOf}
use Rattle.plans.specs.Strahler.{Measured}

pub record Planned (s ends tables : List ℕ) (c : ℕ) (column least : List ℕ) : Type 0 where
  pub short : length s ≤ 4096
  pub ends_long : length s ≤ length ends
  pub tables_long : length s ≤ length tables
  pub measured : Measured s ends tables 0
  pub columns : ColumnsOf s c column least
  pub least_long : c ≤ length least
