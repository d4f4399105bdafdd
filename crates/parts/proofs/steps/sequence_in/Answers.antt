use Rattle.std.proofs.Common.{ℕ, ◌+◌, ◌/◌, subst}
use Rattle.refinement.specs.DeadRows.{DeadRow}
use Rattle.parts.proofs.Distinguishing.{finished_table}
use Rattle.parts.proofs.Keyed.{step_refused, step_done}
use Rattle.parts.proofs.Rooms.{set_room}
use Rattle.parts.proofs.Sequences.{seq_keyed, seq_says}
use Rattle.parts.proofs.steps.sequence_in.Goals as goal

pub returns-in_err-rows : goal.returns-in_err-rows
returns-in_err-rows c = λ p q F G.
    let back = c.table-back in
    let n = back.result.rows in
    let D = subst (λ (k : ℕ). DeadRow k n back.result.words.now c.dead_row.result) back.ensures.1 c.dead_row.ensures in
    step_refused (seq_keyed (n / 32 + 1) c.args.columns.sound (finished_table c.table.ensures F) (finished_table back.ensures G) D (set_room n)) _ _ _ _ c.from_residual.ensures c.in_err-rows.ensures

pub returns : goal.returns
returns c = λ p q F G.
    let back = c.table-back in
    let n = back.result.rows in
    let C = c.args.columns.sound in
    let s = finished_table c.table.ensures F in
    let t = finished_table back.ensures G in
    let D = subst (λ (k : ℕ). DeadRow k n back.result.words.now c.dead_row.result) back.ensures.1 c.dead_row.ensures in
    step_done (seq_keyed (n / 32 + 1) C s t D (set_room n)) (seq_says (n / 32 + 1) C s t D (set_room n)) C c.in_ok-rows.ensures c.join_blocks_in.ensures
