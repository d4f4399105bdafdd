use Rattle.std.proofs.lemmas.Result.{on_ok_weaker}
use Rattle.notation.proofs.Adding.{added_range, added_front, unions}
use Rattle.notation.proofs.scan.Reader.+put_runs.Goals as goal

pub returns-in_default : goal.returns-in_default
returns-in_default t c =
    on_ok_weaker c.put.result (λ h. added_range c.args.low c.run_end-high.result c.run_end-high.ensures.1 c.run_end-high.ensures.0 h) c.put.ensures

pub returns : goal.returns
returns t c =
    on_ok_weaker c.put_runs.result
    (λ h. added_front unions c.args.low c.run_end-high.result c.run_end-high.ensures.1 c.run_end-high.ensures.0 c.in_ok-put.ensures c.in_ok-put-2.ensures h)
    c.put_runs.ensures
