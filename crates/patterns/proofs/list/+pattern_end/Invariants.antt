use Rattle.std.proofs.Common.{◌-◌, length}
use Rattle.patterns.proofs.list.+pattern_end.Given as goal

abbrev pub decreases-pattern_end : goal.decreases-pattern_end
decreases-pattern_end l = length l.list.now - l.at
