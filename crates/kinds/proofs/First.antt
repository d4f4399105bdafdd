-- The pattern that a list begins with can be worked out where there is room for twelve tables. Assumes nothing.
use Rattle.std.proofs.Common.{ℕ, ◌*◌, ◌≤◌, List, length, Some, arith}
use Rattle.std.proofs.lemmas.Nat.{mul-le}
use Rattle.patterns.specs.Promises.{PatternRead}
use Rattle.patterns.proofs.Places.{stands_stop}
use Rattle.patterns.proofs.Trees.{write_long}
use Rattle.plans.specs.Strahler.{strahler}
use Rattle.plans.proofs.Strahler.{twelve_tables}
use Rattle.making.specs.Working.{Workable}

pub first_workable : {s : List ℕ} {stop : ℕ} (m room : ℕ) → length s ≤ 4096 → PatternRead s 0 (Some stop) → 12 * m ≤ room → Workable s 0 m room
first_workable {stop = stop} m room short (p, h) l = record {
  pattern = p;
  stop = stop;
  here = h;
  tables = omega (arith, mul-le (strahler p) m 12 m (twelve_tables p (omega (arith, stands_stop (write_long p) h.stands, h.stands.within))) (omega arith));
}
