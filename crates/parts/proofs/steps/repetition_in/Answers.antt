use Rattle.std.proofs.Common.{ℕ, ◌+◌, ◌/◌, subst}
use Rattle.refinement.specs.DeadRows.{DeadRow}
use Rattle.parts.proofs.Distinguishing.{finished_table}
use Rattle.parts.proofs.Keyed.{step_refused, step_done}
use Rattle.parts.proofs.Rooms.{set_room}
use Rattle.parts.proofs.Repetitions.{star_keyed, star_says}
use Rattle.parts.proofs.steps.repetition_in.Goals as goal

pub returns-in_err-rows : goal.returns-in_err-rows
returns-in_err-rows c = λ p F.
    let part = c.table-table in
    let n = part.result.rows in
    let D = subst (λ (k : ℕ). DeadRow k n part.result.words.now c.dead_row.result) part.ensures.1 c.dead_row.ensures in
    step_refused (star_keyed (n / 32 + 1) c.args.columns.sound (finished_table part.ensures F) D (set_room n)) _ _ _ _ c.from_residual.ensures c.in_err-rows.ensures

pub returns : goal.returns
returns c = λ p F.
    let part = c.table-table in
    let n = part.result.rows in
    let C = c.args.columns.sound in
    let t = finished_table part.ensures F in
    let D = subst (λ (k : ℕ). DeadRow k n part.result.words.now c.dead_row.result) part.ensures.1 c.dead_row.ensures in
    step_done (star_keyed (n / 32 + 1) C t D (set_room n)) (star_says (n / 32 + 1) C t D (set_room n)) C c.in_ok-rows.ensures c.join_blocks_in.ensures
