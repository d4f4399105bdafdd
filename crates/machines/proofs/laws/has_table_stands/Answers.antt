use Rattle.machines.proofs.Existing.{has_table_stands_lem}
use Rattle.machines.proofs.laws.has_table_stands.Goals as goal

pub returns : goal.returns
returns c = has_table_stands_lem
