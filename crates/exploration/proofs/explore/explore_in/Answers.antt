use Rattle.std.proofs.Common.{◌≡◌, sym, refl, arith}
use Rattle.exploration.proofs.Settling.{on_as, on_begun, on_ended, none_fits}
use Rattle.exploration.proofs.explore.explore_in.Goals as goal

pub returns-in_err-first : goal.returns-in_err-first
returns-in_err-first g c =
    let put = c.in_err-first.ensures in
    rw c.from_residual.ensures (record {
      says = none_fits (g.S.System.next c.args.sys.now) (g.S.System.begin c.args.sys.now) c.columns-columns.ensures.columns (omega (arith, put.settled.0, c.requires.none));
      same = put.same;
      rest = refl;
    })

pub loop-row-init : goal.loop-row-init
loop-row-init g c =
    let put = c.in_ok-first.ensures in
    let zero : 0 ≡ c.in_ok-first.first.0 = omega (arith, put.settled.within, c.requires.none) in
    let one : c.settle.new.self.count ≡ 1 = omega (arith, put.counts.1 (omega (arith, c.requires.none)), c.requires.none) in
    record {
      stands = put.stands;
      same = put.same;
      reached = omega arith;
      on = on_as c.columns-columns.ensures.is put.same.size one (on_begun c.columns-columns.ensures.columns c.start.new.out zero put.settled.here c.start.ensures);
      rest = refl;
    }

pub returns : goal.returns
returns g c =
    let inv = c.loop-row.invariant in
    record {
      says = on_ended c.columns-columns.ensures.columns c.size.ensures.lawful (on_as (sym c.columns-columns.ensures.is) (sym inv.same.size) (c.count-2.ensures) inv.on) (omega arith) (omega (arith, inv.stands.few, inv.same.most)) (omega (arith, c.requires.table, c.loop-row.auto.table));
      same = inv.same;
      rest = inv.rest;
    }
