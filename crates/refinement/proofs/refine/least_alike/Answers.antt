use Rattle.std.proofs.Common.{rules, refl, subst, sym}
use Rattle.std.proofs.lemmas.Iterator.{first_from_Range}
use borrow.Author.Tests.{tests}
use Rattle.refinement.specs.Refining.{at, Same, Other, Found}
use Rattle.refinement.proofs.Rounds.{found_alike}
use Rattle.refinement.proofs.refine.least_alike.Goals as goal

pub returns : goal.returns
returns c =
    let n = c.args.table.columns in
    let t = c.args.table.words.now in
    let B = at c.args.block.now in
    subst (Found n t B c.args.i) (sym c.unwrap_or.ensures) (found_alike B _ c.requires.low c.requires.i refl
    (first_from_Range _ _ _ _ (λ j. Same n t B j c.args.i) (λ j. Other n t B j c.args.i) c.find.ensures.ran (λ x q k. search (rules, tests)) (λ x q k. search (rules, tests))))
