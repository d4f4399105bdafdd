use Rattle.std.proofs.Common.{◌≡◌, false}
use Rattle.subsets.specs.Sets.{accepts}
use Rattle.subsets.proofs.bits.accepts.Given as goal

abbrev pub invariant-loop-q : goal.invariant-loop-q
invariant-loop-q l =
    (goal.iterator-loop-q).can_next l.q-iterator
    × (goal.iterator-loop-q).is_finite l.q-iterator
    × (l.q-iterator.words.now ≡ l.words)
    × (l.q-iterator.rows ≡ l.table.rows)
    × (accepts l.table.words.now l.words l.q-iterator.at ≡ false)
