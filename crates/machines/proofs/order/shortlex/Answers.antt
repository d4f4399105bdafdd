use Rattle.std.proofs.Common.{arith}
use Rattle.machines.specs.Words.{shorter}
use Rattle.machines.proofs.Shortlex.{level_more, level_below, level_above}
use Rattle.machines.proofs.order.shortlex.Goals as goal

pub returns-then-left-right : goal.returns-then-left-right
returns-then-left-right c = shorter (omega arith)

pub returns-then-right-left : goal.returns-then-right-left
returns-then-right-left c = shorter (omega arith)

pub loop-i-preserved : goal.loop-i-preserved
loop-i-preserved c = level_more c.loop-i.invariant (omega (arith, c.loop-i.invariant.within)) (omega arith)

pub returns-then-left-i : goal.returns-then-left-i
returns-then-left-i c = level_below c.loop-i.invariant (omega (arith, c.loop-i.invariant.within)) c.if-left-i.true

pub returns-then-right-i : goal.returns-then-right-i
returns-then-right-i c = level_above c.loop-i.invariant (omega (arith, c.loop-i.invariant.within)) c.if-right-i.true
