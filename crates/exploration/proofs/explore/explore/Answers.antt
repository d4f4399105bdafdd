use Rattle.std.proofs.Common.{◌≡◌, ◌*◌, ◌∙◌, drop, subst, rules}
use Rattle.exploration.proofs.Settling.{says_as, front_of}
use Rattle.exploration.proofs.explore.explore.Goals as goal

pub returns : goal.returns
returns g c =
    let most = c.new-index.ensures.sizes.1 in
    let size = c.size-size.ensures.is in
    record {
      says = says_as (g.S.System.next c.args.sys.now) (g.S.System.begin c.args.sys.now) (g.S.System.shows c.args.sys.now) (g.S.System.column c.args.sys.now) (g.S.System.count c.args.sys.now) c.explore_in.new.table c.explore_in.result
          (c.new-index.ensures.sizes.0 ∙ size) most (search (rules, front_of)) c.explore_in.ensures.says;
      rest = subst (λ m. drop (257 * m) c.explore_in.new.table ≡ drop (257 * m) c.args.table.now) most c.explore_in.ensures.rest;
    }
