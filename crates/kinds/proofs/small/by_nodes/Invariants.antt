use Rattle.std.proofs.Common.{◌≡◌, vec_len}
use Rattle.kinds.proofs.small.by_nodes.Given as goal

-- a list of patterns for each number of nodes below this one
abbrev pub invariant-loop-nodes : goal.invariant-loop-nodes
invariant-loop-nodes l = vec_len l.all ≡ l._nodes
