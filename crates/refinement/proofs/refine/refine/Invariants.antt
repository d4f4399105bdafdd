use Rattle.std.proofs.Common.{◌-◌, ◌*◌, sum}
use Rattle.refinement.specs.Refining.{at, Blocks}
use Rattle.refinement.proofs.Rounds.{Finer}
use Rattle.refinement.proofs.refine.refine.Given as goal

abbrev pub invariant-rounds : goal.invariant-rounds
invariant-rounds l = Blocks l.table.columns l.table.rows l.table.words.now (at l.block)

-- the least rows only grow
abbrev pub decreases-rounds : goal.decreases-rounds
decreases-rounds l = l.table.rows * l.table.rows - sum l.block

abbrev pub invariant-loop-i : goal.invariant-loop-i
invariant-loop-i l = Finer l.table.columns l.i l.table.words.now (at l.block) (at l.fresh)
