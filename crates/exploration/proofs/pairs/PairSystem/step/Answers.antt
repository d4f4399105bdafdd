use Rattle.std.proofs.Common.{rules}
use Rattle.exploration.proofs.Paired.{step_cells}
use Rattle.exploration.proofs.pairs.PairSystem.step.Goals as goal

pub returns : goal.returns
returns g c = search (rules, step_cells, c.args.self.now.columns.sound)
