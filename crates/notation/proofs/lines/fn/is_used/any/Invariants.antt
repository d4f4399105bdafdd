use Rattle.std.proofs.Common.{◌≡◌, false}
use Rattle.notation.specs.Reading.{Within}
use Rattle.notation.specs.Names.{Unlike}
use Rattle.notation.proofs.lines.fn.is_used.any.Given as goal

abbrev pub ensures : goal.ensures
ensures l r = r ≡ false → Within l.text.entry.now l.name → Within l.text.entry.now l.other.entry.now → Unlike l.text.entry.now l.name l.other.entry.now
