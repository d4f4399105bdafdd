use Rattle.std.proofs.Common.{refl}
use Rattle.std.proofs.lemmas.Result.{on_ok_weaker}
use Rattle.patterns.specs.Patterns.{range}
use Rattle.notation.proofs.Adding.{parsed_as}
use Rattle.notation.proofs.scan.Reader.any_byte.Goals as goal

pub returns : goal.returns
returns c = on_ok_weaker c.put.result (λ h. parsed_as (range 0 255) refl c.in_ok-expect.ensures h) c.put.ensures
