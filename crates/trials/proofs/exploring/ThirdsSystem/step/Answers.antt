use Rattle.std.proofs.Common.{[], ◌∷◌, ap, ◌∙◌, arith, rules}
use Rattle.exploration.proofs.One.{set_one}
use Rattle.trials.proofs.exploring.ThirdsSystem.step.Goals as goal

pub returns : goal.returns
returns c = set_one _ _ (search rules) ∙ ap (λ z. z ∷ []) (omega arith)
