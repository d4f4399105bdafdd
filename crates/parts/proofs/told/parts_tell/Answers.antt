use Rattle.parts.proofs.Telling.{parts_tell_lem}
use Rattle.parts.proofs.told.parts_tell.Goals as goal

pub returns : goal.returns
returns c = parts_tell_lem
