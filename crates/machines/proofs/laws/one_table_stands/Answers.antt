use Rattle.machines.proofs.Unique.{one_table_stands_lem}
use Rattle.machines.proofs.laws.one_table_stands.Goals as goal

pub returns : goal.returns
returns c = one_table_stands_lem
