use Rattle.machines.proofs.Reached.{key_classes_stand_lem}
use Rattle.machines.proofs.laws.key_classes_stand.Goals as goal

pub returns : goal.returns
returns c = key_classes_stand_lem
