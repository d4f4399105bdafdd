use Rattle.std.proofs.Common.{◌-◌, ◌≤◌, length, vec_items, vec_len}
use Rattle.notation.specs.Reading.{On}
use Rattle.notation.specs.Writing.{Keeps}
use Rattle.notation.proofs.scan.Reader.repetitions.Given as goal

abbrev pub invariant-loop : goal.invariant-loop
invariant-loop l = On l.initial.self l.self × (l.start ≤ vec_len l.list) × Keeps l.start (vec_items l.initial.list) (vec_items l.list)

abbrev pub decreases-loop : goal.decreases-loop
decreases-loop l = length l.self.text.now - l.self.at
