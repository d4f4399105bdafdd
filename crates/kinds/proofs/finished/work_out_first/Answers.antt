use Rattle.std.proofs.Common.{◌*◌, length, arith}
use Rattle.kinds.proofs.First.{first_workable}
use Rattle.kinds.proofs.finished.work_out_first.Goals as goal

pub work_out-requires-clause-here : goal.work_out-requires-clause-here
work_out-requires-clause-here c =
    first_workable (257 * c.args.most) (length c.as_mut_slice.result.now) c.args.plan.planned.short c.in-Some.ensures
    (omega (arith, c.as_mut_slice.ensures.len, c.in_ok-stack.ensures.len))
