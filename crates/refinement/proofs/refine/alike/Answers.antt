use Rattle.std.proofs.Common.{◌≡◌, ◌≢◌, ℕ, false, rules, arith, sym, ◌∙◌}
use Rattle.std.proofs.lemmas.Bool.Decides.{nat_tests}
use Rattle.std.proofs.lemmas.Iterator.{cases_from_all, YieldsList-from_slice, YieldsList-from_zip}
use Rattle.std.proofs.lemmas.Iterator.Adapters.{serves_from_places}
use borrow.Author.Tests.{tests}
use Rattle.refinement.specs.Refining.{at}
use Rattle.refinement.proofs.RowCells.{row_cells}
use Rattle.refinement.proofs.Rounds.{pair_inside, alike_says}
use Rattle.refinement.proofs.refine.alike.Goals as goal
use Rattle.refinement.proofs.refine.alike.Goals.{then-block-i, else-block-i}

pub all-requires-clause-callable : goal.all-requires-clause-callable
all-requires-clause-callable c =
    serves_from_places (YieldsList-from_zip (YieldsList-from_slice (row_cells c.args.table.columns c.args.table.words.now c.args.i) (cc)) (YieldsList-from_slice (row_cells c.args.table.columns c.args.table.words.now c.args.j) (cc)))
    (λ x q k. search (rules, tests)) (λ x k l e. let h = pair_inside c.args.table.inside c.requires.i c.requires.j k x.0.now x.1.now l e in search (rules, tests))

pub returns-then-shown : goal.returns-then-shown
returns-then-shown c =
    let B = at c.args.block.now in
    elim c.if-block-i.branch [
      | then-block-i w ↦ alike_says B _ c.args.table.inside c.requires.i c.requires.j w.if-block-i.true
          (let e : w.shown.result ≡ w.shown-then-block-i.result = grind (arith, nat_tests) in sym w.shown.ensures ∙ e ∙ w.shown-then-block-i.ensures)
          (cases_from_all c.all.new.self _ _ (λ (p : ℕ × ℕ). B p.0 ≡ B p.1) (λ p. B p.0 ≢ B p.1) c.all.ensures.ran
          (YieldsList-from_zip {s = c.zip.result} (YieldsList-from_slice _ (cc)) (YieldsList-from_slice _ (cc)))
          (λ x q k. search (rules, tests)) (λ x q k. search (rules, tests)))
      | else-block-i w ↦ absurd (let e : c.if-block-i.value ≡ false = grind (arith, nat_tests) in cc)
    ]
