use Rattle.parts.proofs.Distinguishing.{finished_table}
use Rattle.parts.proofs.Keyed.{step_refused, step_done}
use Rattle.parts.proofs.Pairs.{connected_keyed, connected_says}
use Rattle.parts.proofs.steps.connect_in.Goals as goal

pub returns-in_err-rows : goal.returns-in_err-rows
returns-in_err-rows c = λ p q F G.
    step_refused (connected_keyed (finished_table c.table.ensures F) (finished_table c.table-2.ensures G) c.args.join) _ _ _ _ c.from_residual.ensures c.in_err-rows.ensures

pub returns : goal.returns
returns c = λ p q F G.
    let l = finished_table c.table.ensures F in
    let r = finished_table c.table-2.ensures G in
    step_done (connected_keyed l r c.args.join) (connected_says l r c.args.join) c.args.columns.sound c.in_ok-rows.ensures c.join_blocks_in.ensures
