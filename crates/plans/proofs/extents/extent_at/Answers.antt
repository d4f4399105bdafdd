use Rattle.std.proofs.Common.{sym, ◌∙◌, subst, arith}
use Rattle.patterns.proofs.Extents.{node_to, node_later, arity_most, end_none}
use Rattle.plans.specs.Strahler.{ExtentAt}
use Rattle.plans.proofs.Measuring.{extent_read, extent_written, extent_past, extent_leaf, extent_part, extent_first_none, extent_two, extent_or}
use Rattle.plans.proofs.extents.extent_at.Goals as goal

pub returns-in_err-node : goal.returns-in_err-node
returns-in_err-node c = subst (ExtentAt c.args.list.now c.args.at) (sym c.from_residual.ensures) (end_none c.in_err-node.ensures)

pub returns-in-0 : goal.returns-in-0
returns-in-0 c = extent_leaf (node_to c.width.result c.in_ok-node.ensures c.width.ensures) (sym c.arity.ensures ∙ c.in-0.is)

pub returns-in-1 : goal.returns-in-1
returns-in-1 c =
    let r = node_to c.width.result c.in_ok-node.ensures c.width.ensures in
    extent_part r c.get.result (sym c.arity.ensures ∙ c.in-1.is)
    (extent_read c.args.extents c.get.result c.requires.ends c.requires.tables c.requires.behind (omega (arith, node_later r)) c.get.ensures)

pub returns-in_err-first-in_default : goal.returns-in_err-first-in_default
returns-in_err-first-in_default c =
    let r = node_to c.width.result c.in_ok-node.ensures c.width.ensures in
    subst (ExtentAt c.args.list.now c.args.at) (sym c.from_residual-in_err-first-in_default.ensures)
    (extent_first_none r (omega (arith, arity_most c.in_ok-node.node)) (extent_past c.args.extents c.requires.ends c.requires.tables c.in_err-first-in_default.ensures))

pub returns-in_ok-first-in_default : goal.returns-in_ok-first-in_default
returns-in_ok-first-in_default c =
    let r = node_to c.width.result c.in_ok-node.ensures c.width.ensures in
    let mid = c.in_ok-first-in_default.first.end in
    extent_two r c.requires.short (omega (arith, arity_most c.in_ok-node.node))
    (extent_written c.args.extents c.in_ok-first-in_default.first c.requires.behind (omega (arith, node_later r)) c.in_ok-first-in_default.ensures)
    (λ l. extent_or c.get-in_default-2.result _ c.unwrap_or-second.result
    (extent_read c.args.extents c.get-in_default-2.result c.requires.ends c.requires.tables c.requires.behind (omega arith) c.get-in_default-2.ensures) c.unwrap_or-second.ensures)
    c.of_both.ensures
