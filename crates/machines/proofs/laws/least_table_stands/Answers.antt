use Rattle.machines.proofs.Least.{least_table_stands_lem}
use Rattle.machines.proofs.laws.least_table_stands.Goals as goal

pub returns : goal.returns
returns c = least_table_stands_lem
