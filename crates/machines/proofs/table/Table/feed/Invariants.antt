use Rattle.machines.proofs.Feeding.{Feeding}
use Rattle.machines.proofs.table.Table.feed.Given as goal

abbrev pub invariant-loop-i : goal.invariant-loop-i
invariant-loop-i l = Feeding l.self.rows l.words l.piece l.initial.ends l.initial.at l.ends l.at l.i
