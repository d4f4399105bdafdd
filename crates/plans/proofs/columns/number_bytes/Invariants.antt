use Rattle.plans.specs.Dividing.{Divided}
use Rattle.plans.proofs.columns.number_bytes.Given as goal

abbrev pub invariant-loop-b : goal.invariant-loop-b
invariant-loop-b l = Divided l.cuts l.column l.least l.j l.b
