use Rattle.std.proofs.Common.{refl}
use Rattle.std.proofs.lemmas.Result.{on_ok_weaker}
use Rattle.patterns.specs.Patterns.{empty}
use Rattle.notation.proofs.Moving.{past_past, past_same}
use Rattle.notation.proofs.Adding.{parsed_as}
use Rattle.notation.proofs.scan.Reader.literal.Goals as goal

pub returns-then-accept : goal.returns-then-accept
returns-then-accept c = on_ok_weaker c.put.result (λ h. parsed_as empty refl (past_past c.if-not-step_over.ensures c.if-accept.ensures) h) c.put.ensures

pub returns : goal.returns
returns c =
    on_ok_weaker c.literal_rest.result (λ h. record { past = past_past c.if-not-step_over.ensures (past_same c.if-accept.ensures h.past); added = h.added }) c.literal_rest.ensures
