use Rattle.std.proofs.Common.{◌<◌}
use Rattle.kinds.proofs.finished.Finished.shows.Given as goal

abbrev pub invariant-loop-byte : goal.invariant-loop-byte
invariant-loop-byte l = l.row < l.self.rows
