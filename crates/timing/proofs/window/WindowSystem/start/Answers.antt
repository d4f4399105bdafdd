use Rattle.std.proofs.Common.{rules}
use Rattle.exploration.proofs.One.{set_one}
use Rattle.timing.proofs.window.WindowSystem.start.Goals as goal

pub returns : goal.returns
returns c = set_one _ _ (search rules)
