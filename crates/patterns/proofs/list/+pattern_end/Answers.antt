use Rattle.std.proofs.Common.{sym, ◌∙◌, subst, arith}
use Rattle.patterns.specs.Promises.{PatternRead}
use Rattle.patterns.proofs.Extents.{node_to, node_later, pattern_later, arity_most, end_none, end_leaf, end_one, end_two, end_two_none}
use Rattle.patterns.proofs.list.+pattern_end.Goals as goal

pub returns-in-0 : goal.returns-in-0
returns-in-0 t c = end_leaf (node_to c.width.result c.in_ok-node.ensures c.width.ensures) (sym c.arity.ensures ∙ c.in-0.is)

pub returns-in-1 : goal.returns-in-1
returns-in-1 t c =
    end_one (node_to c.width.result c.in_ok-node.ensures c.width.ensures) c.pattern_end.result (sym c.arity.ensures ∙ c.in-1.is) c.pattern_end.ensures

pub returns-in_ok-second-in_default : goal.returns-in_ok-second-in_default
returns-in_ok-second-in_default t c =
    end_two (node_to c.width.result c.in_ok-node.ensures c.width.ensures) c.in_ok-second-in_default.second c.pattern_end-in_default-2.result (omega (arith, arity_most c.in_ok-node.node))
    c.in_ok-second-in_default.ensures c.pattern_end-in_default-2.ensures

pub returns-in_err-node : goal.returns-in_err-node
returns-in_err-node t c = subst (PatternRead c.args.list.now c.args.at) (sym c.from_residual.ensures) (end_none c.in_err-node.ensures)

pub returns-in_err-second-in_default : goal.returns-in_err-second-in_default
returns-in_err-second-in_default t c =
    subst (PatternRead c.args.list.now c.args.at) (sym c.from_residual-in_err-second-in_default.ensures)
    (end_two_none (node_to c.width.result c.in_ok-node.ensures c.width.ensures) (omega (arith, arity_most c.in_ok-node.node)) c.in_err-second-in_default.ensures)

pub pattern_end-requires-in_default-2 : goal.pattern_end-requires-in_default-2
pattern_end-requires-in_default-2 t c =
    let later = node_later (node_to c.width.result c.in_ok-node.ensures c.width.ensures) in
    let second = pattern_later c.in_ok-second-in_default.ensures.1 in
    (omega (arith, c.decreases), tt)
