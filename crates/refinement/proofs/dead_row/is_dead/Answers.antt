use Rattle.std.proofs.Common.{◌≡◌, ◌≢◌, sym, ◌∙◌, rules}
use Rattle.std.proofs.lemmas.Iterator.{cases_from_all, YieldsList-from_slice}
use borrow.Author.Tests.{tests}
use Rattle.refinement.proofs.DeadRows.{dead_says}
use Rattle.refinement.proofs.dead_row.is_dead.Goals as goal

pub returns-then-shown-eq0 : goal.returns-then-shown-eq0
returns-then-shown-eq0 c = dead_says _ c.args.table.inside c.requires (sym c.shown.ensures ∙ c.if-shown-eq0.true)
    (cases_from_all _ _ _ (λ x. x ≡ c.args.row) (λ x. x ≢ c.args.row) c.all.ensures.ran (YieldsList-from_slice _ (cc)) (λ x q k. search (rules, tests)) (λ x q k. search (rules, tests)))
