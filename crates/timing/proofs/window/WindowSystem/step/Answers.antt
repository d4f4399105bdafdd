use Rattle.std.proofs.Common.{[], ◌∷◌, ap, ◌∙◌, arith, rules}
use Rattle.timing.specs.Windows.{wrap}
use Rattle.exploration.proofs.One.{set_one}
use Rattle.timing.proofs.window.WindowSystem.step.Goals as goal

pub returns : goal.returns
returns c = set_one _ _ (search rules) ∙ ap (λ z. z ∷ []) (c.wrap.ensures ∙ ap (wrap c.args.self.now.size) (omega arith))
