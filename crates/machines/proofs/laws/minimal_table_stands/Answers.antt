use Rattle.machines.proofs.Existing.{minimal_table_stands_lem}
use Rattle.machines.proofs.laws.minimal_table_stands.Goals as goal

pub returns : goal.returns
returns c = minimal_table_stands_lem
