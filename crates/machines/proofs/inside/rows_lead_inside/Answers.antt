use Rattle.std.proofs.Common.{rules, ℕ, ◌<◌, All, refl, arith}
use borrow.Author.Tests.{tests}
use Rattle.std.proofs.lemmas.Iterator.{cases_from_all, YieldsList-from_range}
use Rattle.machines.proofs.Cells.{first_cells, rows_all}
use Rattle.machines.proofs.inside.rows_lead_inside.Goals as goal

pub returns : goal.returns
returns c =
    let k = c.args.rows in
    let cells = first_cells c.args.table.now c.args.columns in
    rows_all c.args.table.now c.args.columns k c.all.result (omega arith) (omega arith)
    (cases_from_all c.all.new.self _ _ (λ (i : ℕ). All (λ to. to < k) (cells i)) (λ i. All (λ to. to < k) (cells i) → ⊥)
    c.all.ensures.ran (YieldsList-from_range 0 k k refl (omega arith)) (λ x q h. search (rules, tests)) (λ x q h. search (rules, tests)))
