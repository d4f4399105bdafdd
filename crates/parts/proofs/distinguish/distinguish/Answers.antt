use Rattle.std.proofs.Common.{arith}
use Rattle.parts.specs.Steps.{Distinguishes}
use Rattle.parts.proofs.Distinguishing.{in_areas}
use Rattle.parts.proofs.distinguish.distinguish.Goals as goal

pub returns : goal.returns
returns g c =
    let S = g.S.System in
    let s = c.args.sys.now in
    in_areas (λ t block. Distinguishes (S.next s) (S.begin s) (S.shows s) (S.column s) (S.count s) c.args.most t block c.distinguish_in.result)
    c.distinguish_in.new.raw c.distinguish_in.new.block c.distinguish_in.new.work (omega arith) (omega arith) c.distinguish_in.ensures
