use Rattle.std.proofs.Common.{◌≡◌, ℕ, ◌+◌, ◌-◌, subst, arith}
use Rattle.plans.specs.Strahler.{Measured}
use Rattle.plans.proofs.Measuring.{measured_none, measured_front}
use Rattle.plans.proofs.extents.measure.Goals as goal

pub loop-at-init : goal.loop-at-init
loop-at-init c = measured_none _ _ _ _ (omega arith)

pub extent_at-requires-clause-behind : goal.extent_at-requires-clause-behind
extent_at-requires-clause-behind c =
    let here : c.loop-at.at ≡ c.loop-at.at - 1 + 1 = omega arith in
    measured_front (subst (λ (i : ℕ). Measured c.args.list.now c.loop-at.ends c.loop-at.tables i) here c.loop-at.invariant)
