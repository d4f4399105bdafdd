use Rattle.std.proofs.Common.{◌≡◌, ℕ, ◌+◌, ◌-◌, ◌*◌, ◌<◌, false, length}
use Rattle.patterns.specs.Patterns.{Pattern, matches}
use Rattle.patterns.specs.Promises.{PatternAt}
use Rattle.patterns.proofs.Cutting.{Here, Part}
use Rattle.patterns.proofs.direct.+matching.Given as goal

-- what is left of the list and of the word; a repetition and a sequence come before their parts
abbrev pub decreases-matches_at : goal.decreases-matches_at
decreases-matches_at l = 2 * (length l.list.now - l.at) + 2 * length l.word.now

abbrev pub decreases-sequence_matches : goal.decreases-sequence_matches
decreases-sequence_matches l = 2 * (length l.list.now - l.first) + 2 * length l.word.now + 1

abbrev pub decreases-star_matches : goal.decreases-star_matches
decreases-star_matches l = 2 * (length l.list.now - l.at) + 2 * length l.word.now + 1

-- no cut so far serves
abbrev pub invariant-sequence_matches-loop-cut : goal.invariant-sequence_matches-loop-cut
invariant-sequence_matches-loop-cut l =
    (p q : Pattern) (stop end : ℕ) → PatternAt l.list l.first p stop → PatternAt l.list l.second q end → (k : ℕ) → k < l.cut → Here (matches p) (matches q) l.word k ≡ false

abbrev pub invariant-star_matches-loop-cut : goal.invariant-star_matches-loop-cut
invariant-star_matches-loop-cut l = (p : Pattern) (stop : ℕ) → PatternAt l.list l.at p stop → (k : ℕ) → k < l.cut → 0 < k → Part p l.word k ≡ false
