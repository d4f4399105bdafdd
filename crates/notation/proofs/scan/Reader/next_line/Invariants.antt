use Rattle.std.proofs.Common.{◌-◌, length}
use Rattle.notation.specs.Reading.{On}
use Rattle.notation.proofs.scan.Reader.next_line.Given as goal

abbrev pub invariant-loop : goal.invariant-loop
invariant-loop l = On l.initial.self l.self

abbrev pub decreases-loop : goal.decreases-loop
decreases-loop l = length l.self.text.now - l.self.at
