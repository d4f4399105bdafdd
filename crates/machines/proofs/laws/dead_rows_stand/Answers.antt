use Rattle.machines.proofs.Dead.{dead_rows_stand_lem}
use Rattle.machines.proofs.laws.dead_rows_stand.Goals as goal

pub returns : goal.returns
returns c = dead_rows_stand_lem
