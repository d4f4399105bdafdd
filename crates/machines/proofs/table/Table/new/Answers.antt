use Rattle.machines.proofs.Cells.{sound_inside}
use Rattle.machines.proofs.table.Table.new.Goals as goal

pub invariant_of-result : goal.invariant_of-result
invariant_of-result c = record { long = c.requires.long; inside = sound_inside _ _ c.requires }
