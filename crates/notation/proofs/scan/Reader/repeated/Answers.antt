use Rattle.std.proofs.Common.{arith}
use Rattle.notation.proofs.Moving.{past_same}
use Rattle.notation.proofs.Adding.{keeps_star, keeps_optional}
use Rattle.notation.proofs.scan.Reader.repeated.Goals as goal

pub returns-then-accept : goal.returns-then-accept
returns-then-accept c =
    let put = c.in_ok-put_before.ensures in
    record { past = c.if-accept.ensures; long = omega (arith, c.requires, put.len); keeps = keeps_star c.args.start put.items put.short }

pub returns-then-accept-3 : goal.returns-then-accept-3
returns-then-accept-3 c =
    let first = c.in_ok-put_before-2.ensures in
    let second = c.in_ok-put_before-3.ensures in
    record {
      past = past_same c.if-accept.ensures (past_same c.if-accept-2.ensures c.if-accept-3.ensures);
      long = omega (arith, c.requires, first.len, second.len);
      keeps = keeps_optional c.args.start first.items second.items second.short;
    }
