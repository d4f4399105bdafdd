use Rattle.machines.proofs.Walking.{exact_stands_lem}
use Rattle.machines.proofs.laws.exact_stands.Goals as goal

pub returns : goal.returns
returns c = exact_stands_lem
