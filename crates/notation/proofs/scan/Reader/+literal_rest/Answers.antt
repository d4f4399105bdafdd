use Rattle.std.proofs.Common.{arith}
use Rattle.std.proofs.lemmas.Result.{on_ok_weaker}
use Rattle.notation.proofs.Moving.{past_past, past_same}
use Rattle.notation.proofs.Adding.{parsed_byte, added_front, sequences}
use Rattle.notation.proofs.scan.Reader.+literal_rest.Goals as goal

pub returns-then-accept : goal.returns-then-accept
returns-then-accept t c =
    let read = c.in_ok-byte.ensures in
    on_ok_weaker c.put.result (λ h. parsed_byte c.in_ok-byte.byte read.byte (past_past read.past c.if-accept.ensures) h) c.put.ensures

pub returns : goal.returns
returns t c =
    let byte = c.in_ok-byte.byte in
    let read = c.in_ok-byte.ensures in
    on_ok_weaker c.literal_rest.result
    (λ h. record {
      past = past_past read.past (past_same c.if-accept.ensures h.past);
      added = added_front sequences byte byte read.byte (omega arith) c.in_ok-put.ensures c.in_ok-put-2.ensures h.added;
    })
    c.literal_rest.ensures
