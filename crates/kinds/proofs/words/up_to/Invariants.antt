use Rattle.std.proofs.Common.{◌≡◌, ◌+◌, ◌^◌, vec_len}
use Rattle.kinds.proofs.words.up_to.Given as goal

-- all shorter words, and those of this length
abbrev pub invariant-loop-length : goal.invariant-loop-length
invariant-loop-length l = (vec_len l.words + 1 ≡ 2 ^ l._length) × (vec_len l.last ≡ 2 ^ l._length)
