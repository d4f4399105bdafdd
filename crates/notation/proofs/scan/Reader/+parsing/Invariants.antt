use Rattle.std.proofs.Common.{◌+◌, ◌-◌, ◌*◌, length}
use Rattle.notation.proofs.scan.Reader.+parsing.Given as goal

-- what is left of the text; at one place the looser come before the tighter
abbrev pub decreases-expression : goal.decreases-expression
decreases-expression l = 8 * (length l.self.now.text.now - l.self.now.at) + 7

abbrev pub decreases-conjunction : goal.decreases-conjunction
decreases-conjunction l = 8 * (length l.self.now.text.now - l.self.now.at) + 6

abbrev pub decreases-sequence : goal.decreases-sequence
decreases-sequence l = 8 * (length l.self.now.text.now - l.self.now.at) + 5

abbrev pub decreases-negation : goal.decreases-negation
decreases-negation l = 8 * (length l.self.now.text.now - l.self.now.at) + 4

abbrev pub decreases-repetition : goal.decreases-repetition
decreases-repetition l = 8 * (length l.self.now.text.now - l.self.now.at) + 3

abbrev pub decreases-atom : goal.decreases-atom
decreases-atom l = 8 * (length l.self.now.text.now - l.self.now.at) + 2

abbrev pub decreases-group : goal.decreases-group
decreases-group l = 8 * (length l.self.now.text.now - l.self.now.at) + 1
