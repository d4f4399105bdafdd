use Rattle.std.proofs.Common.{◌≡◌, ℕ, Some, sym, subst, arith}
use Rattle.patterns.specs.Promises.{ListRead}
use Rattle.patterns.proofs.Extents.{reading_more, list_long, list_full, list_none, list_all}
use Rattle.patterns.proofs.list.read_list.Goals as goal

pub returns-then-list-gt-MOST_BYTES : goal.returns-then-list-gt-MOST_BYTES
returns-then-list-gt-MOST_BYTES c = list_long c.args.list.now c.if-list-gt-MOST_BYTES.true

pub returns-then-at-list : goal.returns-then-at-list
returns-then-at-list c = list_all c.if-list-gt-MOST_BYTES.false c.loop-count.invariant (omega (arith, c.loop-count-test.true)) (omega arith)

pub returns-in_err-at : goal.returns-in_err-at
returns-in_err-at c = subst (ListRead c.args.list.now) (sym c.from_residual.ensures) (list_none c.loop-count.invariant (omega (arith, c.loop-count.invariant.front.within)) c.in_err-at.ensures)

pub loop-count-preserved : goal.loop-count-preserved
loop-count-preserved c = reading_more c.loop-count.invariant c.in_ok-at.ensures

pub returns-then-at-list-2 : goal.returns-then-at-list-2
returns-then-at-list-2 c =
    let all : c.loop-count.count ≡ 32 = omega arith in
    subst (λ (k : ℕ). ListRead c.args.list.now (Some k)) all (list_all c.if-list-gt-MOST_BYTES.false c.loop-count.invariant (omega arith) (omega arith))

pub returns-else-at-list-2 : goal.returns-else-at-list-2
returns-else-at-list-2 c = list_full c.loop-count.invariant (omega arith) (omega (arith, c.loop-count.invariant.front.within))
