use Rattle.std.proofs.Common.{◌≡◌, length, sym, ap, ◌∙◌, subst, arith}
use Rattle.machines.specs.Classes.{nth}
use Rattle.machines.proofs.Places.{nth_below}
use Rattle.patterns.specs.Promises.{MatchedPost}
use Rattle.patterns.proofs.Trees.{one_list}
use Rattle.patterns.proofs.Cutting.{meaning}
use Rattle.patterns.proofs.Ending.{passing_none, passing_more, passing_next, passing_there}
use Rattle.patterns.proofs.direct.matches.Goals as goal

pub returns-in_err-count : goal.returns-in_err-count
returns-in_err-count c =
    subst (MatchedPost c.args.list.now c.args.index c.args.word.now) (sym c.from_residual.ensures)
    record { says = λ ps p o e. c.in_err-count.ensures.says ps o; meaning = meaning }

pub returns-then-index-count : goal.returns-then-index-count
returns-then-index-count c =
    let l = c.in_ok-count.ensures.says in
    record { says = λ ps p o e. omega (arith, nth_below ps c.args.index p e, l.2, ap length (one_list c.args.list.now l.0 ps l.1 o)); meaning = meaning }

pub loop-before-init : goal.loop-before-init
loop-before-init c = passing_none c.in_ok-count.ensures.says.1

pub pattern_behind-at-requires : goal.pattern_behind-at-requires
pattern_behind-at-requires c =
    let l = c.in_ok-count.ensures.says in
    let n = passing_next c.loop-before.invariant (passing_there c.loop-before.invariant l.1 (omega (arith, l.2))) in
    record { pattern = n.pattern; stop = n.stop; here = n.here }

pub loop-before-preserved : goal.loop-before-preserved
loop-before-preserved c =
    let l = c.in_ok-count.ensures.says in
    passing_more c.pattern_behind-at.result c.loop-before.invariant (passing_there c.loop-before.invariant l.1 (omega (arith, l.2))) c.pattern_behind-at.ensures

pub matches_at-requires : goal.matches_at-requires
matches_at-requires c =
    let l = c.in_ok-count.ensures.says in
    let n = passing_next c.loop-before.invariant (passing_there c.loop-before.invariant l.1 (omega (arith, l.2))) in
    record { pattern = n.pattern; stop = n.stop; here = n.here }

pub returns : goal.returns
returns c =
    let l = c.in_ok-count.ensures.says in
    let n = passing_next c.loop-before.invariant (passing_there c.loop-before.invariant l.1 (omega (arith, l.2))) in
    let e : c.loop-before._before ≡ c.args.index = omega arith in
    record { says = (n.ps, n.pattern, n.list, ap (nth n.ps) (sym e) ∙ n.numbered, c.matches_at.ensures n.pattern n.stop n.here); meaning = meaning }
