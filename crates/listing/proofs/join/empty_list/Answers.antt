use Rattle.std.proofs.Common.{◌+◌, ◌-◌, ◌∙◌, arith, rules}
use Rattle.std.proofs.lemmas.List.{places, length-take-le}
use Rattle.std.proofs.lemmas.Slice.{drop-append-drop}
use Rattle.listing.proofs.Starting.{started}
use Rattle.listing.proofs.join.empty_list.Goals as goal

pub returns : goal.returns
returns c = record {
  says = started _ c.requires.few (search (rules, places)) (λ p l. search (rules, places));
  rest = drop-append-drop (1 + c.args.columns - 0) c.args.table.now c.fill.new.self 257 (omega arith)
      (c.fill.ensures.len ∙ length-take-le (1 + c.args.columns - 0) c.args.table.now (omega arith));
}
