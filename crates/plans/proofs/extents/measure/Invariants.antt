use Rattle.plans.specs.Strahler.{Measured}
use Rattle.plans.proofs.extents.measure.Given as goal

abbrev pub invariant-loop-at : goal.invariant-loop-at
invariant-loop-at l = Measured l.list l.ends l.tables l.at
