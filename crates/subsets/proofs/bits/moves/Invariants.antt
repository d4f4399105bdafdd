use Rattle.std.proofs.Common.{◌≡◌, length}
use Rattle.subsets.specs.Sets.{moved}
use Rattle.subsets.proofs.bits.moves.Given as goal

abbrev pub invariant-loop-q : goal.invariant-loop-q
invariant-loop-q l =
    (goal.iterator-loop-q).can_next l.q-iterator
    × (goal.iterator-loop-q).is_finite l.q-iterator
    × (l.q-iterator.words.now ≡ l.from)
    × (l.q-iterator.rows ≡ l.table.rows)
    × (l.to ≡ moved l.table.words.now l.dead l.at l.from (length l.initial.to) l.q-iterator.at)
