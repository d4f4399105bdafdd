use Rattle.std.proofs.Common.{◌-◌, length}
use Rattle.machines.proofs.Shortlex.{Level}
use Rattle.machines.proofs.order.shortlex.Given as goal

abbrev pub invariant-loop-i : goal.invariant-loop-i
invariant-loop-i l = Level l.left l.right l.i

abbrev pub decreases-loop-i : goal.decreases-loop-i
decreases-loop-i l = length l.left - l.i
