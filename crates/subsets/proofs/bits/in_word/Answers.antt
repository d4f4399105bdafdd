use Rattle.std.proofs.Common.{◌/◌, arith}
use Rattle.subsets.proofs.Moves.{rest_none, rest_found}
use Rattle.subsets.proofs.bits.in_word.Goals as goal

pub overflow_add-result : goal.overflow_add-result
overflow_add-result c =
    let F = rest_found c.args.words.now c.args.q (omega (arith, c.type_inv.words (c.args.q / 32))) c.if-rest-eq0.false in
    omega (arith, F.few, c.ranges.q)

pub returns-then-rest-eq0 : goal.returns-then-rest-eq0
returns-then-rest-eq0 c = rest_none c.args.words.now c.args.q c.if-rest-eq0.true

pub returns-else-rest-eq0 : goal.returns-else-rest-eq0
returns-else-rest-eq0 c = rest_found c.args.words.now c.args.q (omega (arith, c.type_inv.words (c.args.q / 32))) c.if-rest-eq0.false
