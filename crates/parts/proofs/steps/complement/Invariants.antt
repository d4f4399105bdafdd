use Rattle.parts.proofs.Turning.{Turning}
use Rattle.parts.proofs.steps.complement.Given as goal

abbrev pub invariant-loop-i : goal.invariant-loop-i
invariant-loop-i l = Turning l.i l.initial.tables l.tables
