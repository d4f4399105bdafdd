use Rattle.std.proofs.Common.{◌≡◌, ◌-◌, ◌*◌, ◌≤◌, drop}
use Rattle.exploration.specs.Standing.{Stands, Same}
use Rattle.exploration.specs.Exploring.{ReadTo}
use Rattle.exploration.proofs.explore.explore_in.Given as goal

abbrev pub invariant-loop-row : goal.invariant-loop-row
invariant-loop-row g l = record {
  stands : Stands l.index;
  same : Same l.fn.index l.index;
  reached : l.row ≤ l.index.count;
  on : ReadTo g.S.System l.sys l.columns l.index l.row l.table;
  rest : drop (257 * l.fn.index.most) l.table ≡ drop (257 * l.fn.index.most) l.fn.table;
}

-- each row is read once, and there are at most so many
abbrev pub decreases-loop-row : goal.decreases-loop-row
decreases-loop-row g l = l.index.most - l.row
