use Rattle.std.proofs.Common.{◌+◌, ◌-◌, ◌*◌, sym, refl, ap, ◌∙◌, subst, arith, take, drop, length-set}
use Rattle.exploration.proofs.Buckets.{same_on, counts_up}
use Rattle.machines.proofs.Cells.{row_long}
use Rattle.exploration.proofs.RowParts.{row_behind}
use Rattle.exploration.proofs.Settling.{on_good, on_next, part_shown, settled_none, step_from, on_as, part_settled}
use Rattle.exploration.proofs.explore.explore_row.Goals as goal

pub show-requires : goal.show-requires
show-requires g c =
    (c.requires.ready, subst (g.S.System.good c.args.sys.now) (sym c.key.ensures.0) (on_good c.requires.columns c.requires.on c.requires.lawful c.args.row c.requires.row))

pub loop-c-init : goal.loop-c-init
loop-c-init g c =
    let S = c.requires.stands in
    record {
      stands = S;
      same = record { size = refl; most = refl; keys = refl; heads = refl; links = refl };
      in_row = c.requires.row;
      long = length-set (take (257 * c.args.row + 257 - 257 * c.args.row) (drop (257 * c.args.row) c.args.table.now)) 0 c.show.result
          ∙ row_long c.args.row c.args.table.now (omega (arith, S.few));
      on = part_shown c.requires.columns c.requires.on c.show.result (c.show.ensures ∙ ap (g.S.System.shows c.args.sys.now) c.key.ensures.0) c.requires.row refl (omega (arith, S.few));
    }

pub step-requires : goal.step-requires
step-requires g c =
    let inv = c.loop-c.invariant in (
      c.requires.ready,
      (
        subst (g.S.System.good c.args.sys.now) (sym c.key-in-loop-c.ensures.0) (on_good c.requires.columns inv.on c.requires.lawful c.args.row inv.in_row),
        (omega (arith, c.requires.count), omega (arith, c.requires.width, c.requires.scratch)),
      ),
    )

pub returns-in_err-to : goal.returns-in_err-to
returns-in_err-to g c =
    let inv = c.loop-c.invariant in
    let put = c.in_err-to.ensures in
    rw c.from_residual.ensures (record {
      says = settled_none c.requires.columns inv.on inv.in_row c.loop-c-test.true c.step.new.out
          (step_from (g.S.System.next c.args.sys.now) c.step.ensures c.key-in-loop-c.ensures.0)
          c.settle.new.self.most (omega (arith, put.settled.0, put.same.most)) put.settled.1;
      stands = put.stands;
      same = same_on inv.same put.same;
      rest = row_behind c.args.row c.args.index.now.most c.args.table.now c.loop-c.cells (omega (arith, c.requires.stands.few)) inv.long (omega (arith, c.requires.stands.few));
    })

pub loop-c-preserved : goal.loop-c-preserved
loop-c-preserved g c =
    let inv = c.loop-c.invariant in
    let put = c.in_ok-to.ensures in
    record {
      stands = put.stands;
      same = same_on inv.same put.same;
      in_row = omega (arith, counts_up put.counts put.settled.within);
      long = length-set c.loop-c.cells _ _ ∙ inv.long;
      on = on_as refl put.same.size refl
          (part_settled c.requires.columns c.args.table.now c.loop-c.cells inv.long (omega (arith, c.requires.stands.few)) inv.on c.settle.new.self.keys.now inv.in_row c.loop-c-test.true c.step.new.out
          (step_from (g.S.System.next c.args.sys.now) c.step.ensures c.key-in-loop-c.ensures.0) c.loop-c.index.most c.in_ok-to.to.0 put.settled (omega arith) put.counts);
    }

pub returns : goal.returns
returns g c =
    let inv = c.loop-c.invariant in
    record {
      says = (inv.in_row, on_next c.requires.columns inv.on (omega arith) inv.in_row);
      stands = inv.stands;
      same = inv.same;
      rest = row_behind c.args.row c.args.index.now.most c.args.table.now c.loop-c.cells (omega (arith, c.requires.stands.few)) inv.long (omega (arith, c.requires.stands.few));
    }
