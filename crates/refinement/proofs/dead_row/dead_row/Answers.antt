use Rattle.std.proofs.Common.{rules}
use Rattle.std.proofs.lemmas.Iterator.{first_from_Range}
use borrow.Author.Tests.{tests}
use Rattle.refinement.specs.DeadRows.{IsDead}
use Rattle.refinement.proofs.DeadRows.{dead_found}
use Rattle.refinement.proofs.dead_row.dead_row.Goals as goal

pub returns : goal.returns
returns c =
    let Dead = IsDead c.args.table.columns c.args.table.words.now in
    dead_found _ c.rows.ensures (first_from_Range _ _ _ _ Dead (λ r. Dead r → ⊥) c.find.ensures.ran (λ x q k. search (rules, tests)) (λ x q k. search (rules, tests)))
