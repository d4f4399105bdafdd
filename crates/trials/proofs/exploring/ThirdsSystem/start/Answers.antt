use Rattle.std.proofs.Common.{rules}
use Rattle.exploration.proofs.One.{set_one}
use Rattle.trials.proofs.exploring.ThirdsSystem.start.Goals as goal

pub returns : goal.returns
returns c = set_one _ _ (search rules)
