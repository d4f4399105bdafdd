use Rattle.std.proofs.Common.{arith}
use Rattle.machines.proofs.Cells.{inside_sound, sound_inside}
use Rattle.machines.proofs.table.is_table.Goals as goal

pub returns : goal.returns
returns c = (
  λ e. inside_sound _ _ (omega arith) (c.rows_lead_inside.ensures.0 e),
  λ s. c.rows_lead_inside.ensures.1 (sound_inside _ _ s),
)
