use Rattle.std.proofs.Common.{◌≡◌}
use Rattle.patterns.proofs.Ending.{Collecting}
use Rattle.patterns.proofs.direct.bits_after.Given as goal

abbrev pub invariant-loop-index : goal.invariant-loop-index
invariant-loop-index l =
    (goal.iterator-loop-index).can_next l.index-iterator
    × (goal.iterator-loop-index).is_finite l.index-iterator
    × (l.index-iterator.iter.list.now ≡ l.list)
    × Collecting l.list l.text l.bits l.index-iterator.iter.at l.index-iterator.count
