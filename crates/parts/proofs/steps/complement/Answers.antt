use Rattle.std.proofs.Common.{ℕ, subst, arith}
use Rattle.parts.proofs.Turning.{Turning, turning_all}
use Rattle.parts.proofs.steps.complement.Goals as goal

pub returns : goal.returns
returns c = turning_all (subst (λ (k : ℕ). Turning k c.args.tables.now c.loop-i.tables) (omega arith) c.loop-i.invariant)
