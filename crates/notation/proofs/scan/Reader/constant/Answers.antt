use Rattle.std.proofs.Common.{refl}
use Rattle.std.proofs.lemmas.Result.{on_ok_weaker}
use Rattle.patterns.specs.Patterns.{nothing, empty}
use Rattle.notation.proofs.Adding.{parsed_as}
use Rattle.notation.proofs.scan.Reader.constant.Goals as goal

pub returns-in-nothing : goal.returns-in-nothing
returns-in-nothing c = on_ok_weaker c.put-in-nothing.result (λ h. parsed_as nothing refl c.in_ok-word.ensures.0 h) c.put-in-nothing.ensures

pub returns-in-empty : goal.returns-in-empty
returns-in-empty c = on_ok_weaker c.put.result (λ h. parsed_as empty refl c.in_ok-word.ensures.0 h) c.put.ensures
