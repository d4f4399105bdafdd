use Rattle.std.proofs.Common.{arith}
use Rattle.machines.proofs.Feeding.{feeding_more}
use Rattle.machines.proofs.table.Table.feed.Goals as goal

pub loop-i-preserved : goal.loop-i-preserved
loop-i-preserved c = feeding_more c.args.self.now.inside c.loop-i-test.true (omega arith) (omega arith) c.loop-i.invariant
