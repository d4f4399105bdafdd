use Rattle.std.proofs.Common.{◌∙◌, arith}
use Rattle.std.proofs.lemmas.Result.{on_ok_weaker}
use Rattle.notation.proofs.Adding.{keeps_again, made_both}
use Rattle.notation.proofs.scan.Reader.put_again.Goals as goal

pub returns : goal.returns
returns c =
    let put = c.put_before-2.ensures in
    record {
      long = on_ok_weaker c.put_before-2.result
          (λ h. omega (arith, h, c.requires, c.len-end.ensures, c.in_ok-extend_from_within.ensures.len, c.in_ok-put_before.ensures.len)) put.len;
      keeps = made_both c.put_before-2.result put.items put.short
          (keeps_again c.args.start c.len-end.result (c.len-end.ensures ∙ c.args.list.now.ok.0) c.in_ok-extend_from_within.ensures.items c.in_ok-put_before.ensures.items);
    }
