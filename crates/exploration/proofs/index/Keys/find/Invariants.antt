use Rattle.std.proofs.Common.{◌≡◌, ℕ, ◌-◌, ◌<◌, ◌≤◌}
use Rattle.exploration.specs.Keys.{key_at}
use Rattle.exploration.specs.Hashed.{bucket}
use Rattle.exploration.proofs.index.Keys.find.Given as goal

abbrev pub invariant-loop-next : goal.invariant-loop-next
invariant-loop-next l = record {
  within : l.next ≤ l.self.count;
  here : 0 < l.next → bucket 4096 (key_at l.self.words.now l.self.size (l.next - 1)) ≡ bucket 4096 l.key;
  past : (i : ℕ) → l.next ≤ i → i < l.self.count → key_at l.self.words.now l.self.size i ≡ l.key → ⊥;
}

abbrev pub decreases-loop-next : goal.decreases-loop-next
decreases-loop-next l = l.next
