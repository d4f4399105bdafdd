use Rattle.std.proofs.Common.{◌≡◌, ◌-◌, ◌≤◌}
use Rattle.subsets.specs.Sets.{Lacks}
use Rattle.subsets.proofs.bits.MembersIterator.next.Given as goal

-- none from where it began up to here
abbrev pub invariant-loop-self : goal.invariant-loop-self
invariant-loop-self l =
    (l.self.words.now ≡ l.fn.self.words.now) × (l.self.rows ≡ l.fn.self.rows) × (l.fn.self.at ≤ l.self.at) × Lacks l.fn.self.words.now l.fn.self.at l.self.at

abbrev pub decreases-loop-self : goal.decreases-loop-self
decreases-loop-self l = l.self.rows - l.self.at
