use Rattle.machines.proofs.Reached.{crowded_stands_lem}
use Rattle.machines.proofs.laws.crowded_stands.Goals as goal

pub returns : goal.returns
returns c = crowded_stands_lem
