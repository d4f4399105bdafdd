use Rattle.std.proofs.Common.{ℕ, ◌+◌, ◌∙◌, rules, tests}
use Rattle.std.proofs.lemmas.Iterator.{items_from_collect, YieldsList-from_slice, YieldsList-from_map}
use Rattle.std.proofs.lemmas.Iterator.Consumers.{YieldsList-at, YieldsList-from_enumerate, YieldsList-from_filter}
use Rattle.std.proofs.lemmas.Result.{IfOk-weaker}
use Rattle.search.proofs.Marking.{marked, places_marked}
use Rattle.search.proofs.printing.places.Goals as goal

pub returns : goal.returns
returns c =
    IfOk-weaker c.collect.result _ _ (λ v h. h ∙ places_marked c.args.index 0 c.args.ends.now)
    (items_from_collect _ c.collect.ensures.ran
    (YieldsList-from_map _ (λ (q : ℕ × ℕ). q.0 + 1)
    (YieldsList-at c.map.ensures.source (YieldsList-from_filter _ (marked c.args.index) (YieldsList-from_enumerate (YieldsList-from_slice c.args.ends.now cc) cc) c.filter.ensures.closure (λ x r q k. search (rules, tests))))
    c.map.ensures.closure (λ x r q k. search (rules, tests))))
