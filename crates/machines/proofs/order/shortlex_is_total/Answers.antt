use Rattle.machines.proofs.Shortlex.{strict_total}
use Rattle.machines.proofs.order.shortlex_is_total.Goals as goal

pub returns : goal.returns
returns c = strict_total
