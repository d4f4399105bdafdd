use Rattle.std.proofs.Common.{arith}
use Rattle.patterns.proofs.Ending.{walk_there, walk_more}
use Rattle.patterns.proofs.list.PatternsIterator.next.Goals as goal

pub pattern_behind-self-requires : goal.pattern_behind-self-requires
pattern_behind-self-requires c = walk_there c.requires c.if-self.false

pub returns-clause-goes : goal.returns-clause-goes
returns-clause-goes c =
    let m = walk_more c.pattern_behind-self.result c.requires c.if-self.false c.pattern_behind-self.ensures in
    record { on = λ fin. (m.1, tt, omega (arith, m.0)); keeps = m.1; rests = λ fin. fin }
