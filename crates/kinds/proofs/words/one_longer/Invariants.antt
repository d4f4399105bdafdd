use Rattle.std.proofs.Common.{◌≡◌, ◌+◌, ◌*◌, vec_len}
use Rattle.kinds.proofs.words.one_longer.Given as goal

abbrev pub invariant-loop-word : goal.invariant-loop-word
invariant-loop-word l = vec_len l.longer ≡ 2 * l.word-index

abbrev pub invariant-loop-letter : goal.invariant-loop-letter
invariant-loop-letter l = vec_len l.longer ≡ 2 * l.word-index + l.letter-index
