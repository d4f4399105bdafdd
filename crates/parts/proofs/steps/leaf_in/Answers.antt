use Rattle.parts.proofs.Keyed.{step_refused, step_done}
use Rattle.parts.proofs.Leaves.{leaf_keyed, leaf_says}
use Rattle.parts.proofs.steps.leaf_in.Goals as goal

pub returns-in_err-rows : goal.returns-in_err-rows
returns-in_err-rows c = step_refused (leaf_keyed c.args.leaf c.requires.sound) _ _ _ _ c.from_residual.ensures c.in_err-rows.ensures

pub returns : goal.returns
returns c =
    step_done (leaf_keyed c.args.leaf c.requires.sound) (leaf_says c.args.leaf) c.args.columns.sound c.in_ok-rows.ensures c.join_blocks_in.ensures
