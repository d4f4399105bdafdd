use Rattle.std.proofs.Common.{refl}
use Rattle.std.proofs.lemmas.Result.{on_ok_weaker}
use Rattle.patterns.specs.Patterns.{nothing}
use Rattle.notation.proofs.Adding.{parsed_as}
use Rattle.notation.proofs.scan.Reader.class.Goals as goal

pub returns-in_default : goal.returns-in_default
returns-in_default c = on_ok_weaker c.put.result (λ h. parsed_as nothing refl c.in_ok-class.ensures h) c.put.ensures

pub returns : goal.returns
returns c = on_ok_weaker c.put_runs.result (λ h. record { past = c.in_ok-class.ensures; added = h }) c.put_runs.ensures
