use Rattle.plans.proofs.Strahler.{twelve_tables}
use Rattle.plans.proofs.extents.twelve_tables_suffice.Goals as goal

pub returns : goal.returns
returns c = twelve_tables
