use Rattle.std.proofs.Common.{◌+◌, ◌-◌, ◌*◌, length}
use Rattle.making.proofs.work_out.+working.Given as goal

-- what is left of the list; two parts come before each of them
abbrev pub decreases-two_parts : goal.decreases-two_parts
decreases-two_parts l = 2 * (length l.plan.list.now - l.next) + 1

abbrev pub decreases-work_out_in : goal.decreases-work_out_in
decreases-work_out_in l = 2 * (length l.plan.list.now - l.at)
