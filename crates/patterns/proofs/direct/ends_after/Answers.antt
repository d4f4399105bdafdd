use Rattle.std.proofs.Common.{rules, ◌≡◌, ◌-◌, true, false, length, take, drop, arith}
use borrow.Author.Tests.{tests}
use Rattle.std.proofs.lemmas.Iterator.{cases_from_any}
use Rattle.patterns.specs.Patterns.{matches}
use Rattle.patterns.proofs.Ending.{bytes_from, ends_if}
use Rattle.patterns.proofs.Ranges.{steps, inclusive_yields, any_to}
use Rattle.patterns.proofs.direct.ends_after.Goals as goal

pub returns : goal.returns
returns c p stop h =
    let w = c.args.text.now in
    let begins = c.new.ensures in
    ends_if p w (bytes_from w (λ i. omega (arith, c.type_inv.text i))) c.any.result
    (any_to (length w) _ _ _
    (cases_from_any {steps = steps} {v = λ x. x} {s = c.new.result} c.any.new.self _ _ (λ k. true ≡ matches p (take (length w - k) (drop k w))) (λ k. false ≡ matches p (take (length w - k) (drop k w)))
    c.any.ensures.ran (inclusive_yields c.new.result begins.start begins.end begins.exhausted) (λ x q k. search (rules, tests)) (λ x q k. search (rules, tests))))
