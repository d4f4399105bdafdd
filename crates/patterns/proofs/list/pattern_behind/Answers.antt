use Rattle.patterns.proofs.Extents.{same_pattern}
use Rattle.patterns.proofs.list.pattern_behind.Goals as goal

pub returns : goal.returns
returns c = λ p stop h. (same_pattern c.in-Some.ensures.1 h).1
