use Rattle.parts.proofs.Once.{once_wrong}
use Rattle.parts.proofs.told.once_wrong_stands.Goals as goal

pub returns : goal.returns
returns c = once_wrong
