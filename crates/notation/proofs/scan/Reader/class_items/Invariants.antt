use Rattle.std.proofs.Common.{◌-◌, length}
use Rattle.notation.specs.Reading.{On}
use Rattle.notation.proofs.scan.Reader.class_items.Given as goal

abbrev pub invariant-loop-self : goal.invariant-loop-self
invariant-loop-self l = On l.initial.self l.self

abbrev pub decreases-loop-self : goal.decreases-loop-self
decreases-loop-self l = length l.self.text.now - l.self.at
