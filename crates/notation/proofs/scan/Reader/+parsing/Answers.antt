use Rattle.std.proofs.lemmas.Result.{on_ok_weaker}
use Rattle.notation.proofs.Adding.{parsed_infix, parsed_on, added_not, unions, intersections, sequences}
use Rattle.notation.proofs.scan.Reader.+parsing.Goals as goal

pub expression-returns : goal.expression-returns
expression-returns t c =
    on_ok_weaker c.expression.result (λ h. parsed_infix unions c.len-start.ensures c.args.list.now.ok.0 c.in_ok-conjunction.ensures c.in_ok-put_before.ensures.items (parsed_on c.if-not-accept.ensures h)) c.expression.ensures

pub conjunction-returns : goal.conjunction-returns
conjunction-returns t c =
    on_ok_weaker c.conjunction.result (λ h. parsed_infix intersections c.len-start.ensures c.args.list.now.ok.0 c.in_ok-sequence.ensures c.in_ok-put_before.ensures.items (parsed_on c.if-not-accept.ensures h)) c.conjunction.ensures

pub sequence-returns : goal.sequence-returns
sequence-returns t c =
    on_ok_weaker c.sequence.result (λ h. parsed_infix sequences c.len-start.ensures c.args.list.now.ok.0 c.in_ok-negation.ensures c.in_ok-put_before.ensures.items h) c.sequence.ensures

pub negation-returns : goal.negation-returns
negation-returns t c =
    on_ok_weaker c.negation.result (λ h. parsed_on c.if-not-accept.ensures (record { past = h.past; added = added_not c.in_ok-put.ensures h.added })) c.negation.ensures
