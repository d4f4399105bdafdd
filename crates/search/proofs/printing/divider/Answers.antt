use Rattle.std.proofs.Common.{length, None, Some, sym, subst, arith, rules, tests}
use Rattle.std.proofs.lemmas.Iterator.{first_from_find, YieldsList-from_range}
use Rattle.search.specs.Printing.{Rule, RuleFound}
use Rattle.search.proofs.Dividing.{rule_found}
use Rattle.search.proofs.printing.divider.Goals as goal

pub returns-in_err-at : goal.returns-in_err-at
returns-in_err-at c =
    let s = c.args.input.now in
    let none = first_from_find _ _ None (Rule s) (λ k. Rule s k → ⊥) c.in_err-at.ensures.ran (YieldsList-from_range 0 (length s) (length s) (cc) (omega arith)) (λ x q k. search (rules, tests)) (λ x q k. search (rules, tests)) in
    subst (RuleFound s) (sym c.from_residual.ensures) (rule_found s None none)

pub returns : goal.returns
returns c =
    let s = c.args.input.now in
    let found = first_from_find _ _ (Some c.in_ok-at.at) (Rule s) (λ k. Rule s k → ⊥) c.in_ok-at.ensures.ran (YieldsList-from_range 0 (length s) (length s) (cc) (omega arith)) (λ x q k. search (rules, tests)) (λ x q k. search (rules, tests)) in
    rule_found s (Some c.in_ok-at.at) found
