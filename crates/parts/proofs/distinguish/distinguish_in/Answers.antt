use Rattle.std.proofs.Common.{ℕ, ◌*◌, ◌≤◌, length, take, subst, arith, length-take}
use Rattle.exploration.specs.Keys.{key_at}
use Rattle.refinement.specs.Refining.{at, Refined}
use Rattle.parts.proofs.Distinguishing.{refined_front, of_table}
use Rattle.parts.proofs.distinguish.distinguish_in.Goals as goal

pub returns : goal.returns
returns g c =
    let E = c.in_ok-rows.ensures.says in
    let w = g.S.System.width c.args.sys.now in
    let long : c.in_ok-rows.rows ≤ length c.refine.new.block = omega (arith, E.few, simp length-take at c.refine.auto.block) in
    let refined : Refined c.columns.result c.in_ok-rows.rows c.explore.new.table (at c.refine.new.block) =
    of_table (λ t a k. Refined a k t (at c.refine.new.block)) c.new-table.ensures c.refine.ensures in
    record {
      few = E.few;
      inside = E.inside;
      key = key_at (take (c.args.most * w) c.explore.new.work) w;
      explored = E.explored;
      shows_keys = E.shows_keys;
      refined = refined_front c.refine.new.block _ long
          (subst (λ (z : ℕ). Refined z c.in_ok-rows.rows c.explore.new.table (at c.refine.new.block)) c.columns.ensures.is refined);
    }
