use Rattle.std.proofs.Common.{◌≡◌, ◌+◌, ◌<◌, length}
use Rattle.exploration.specs.Standing.{Stands, Same}
use Rattle.exploration.specs.Exploring.{On}
use Rattle.exploration.proofs.RowParts.{with_row}
use Rattle.exploration.proofs.explore.explore_row.Given as goal

-- of the table with these cells in its row
abbrev pub invariant-loop-c : goal.invariant-loop-c
invariant-loop-c g l = record {
  stands : Stands l.index;
  same : Same l.fn.index l.index;
  in_row : l.row < l.index.count;
  long : length l.cells ≡ 257;
  on : On (g.S.System.next l.sys) (g.S.System.begin l.sys) (g.S.System.shows l.sys) (g.S.System.least l.sys) l.columns l.index.size l.index.count l.row l.c (l.row + 1) l.index.keys.now (with_row l.row l.fn.table l.cells);
}
