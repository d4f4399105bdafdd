use Rattle.plans.proofs.Dividing.{columns_of}
use Rattle.plans.proofs.columns.number_columns.Goals as goal

pub returns : goal.returns
returns c = columns_of c.mark_cuts.ensures c.number_bytes.ensures
