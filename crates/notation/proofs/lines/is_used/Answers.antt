use Rattle.std.proofs.Common.{refl, arith, rules, tests}
use Rattle.std.proofs.lemmas.Bool.Decides.{when_false}
use Rattle.std.proofs.lemmas.Iterator.{cases_from_any, YieldsList-from_slice}
use Rattle.notation.specs.Reading.{Within}
use Rattle.notation.specs.Names.{Unlike}
use Rattle.notation.proofs.lines.is_used.Goals as goal

pub returns : goal.returns
returns c = λ e k d l.
    let text = c.args.text.now in
    let found = cases_from_any _ _ _ (λ _. Unit {0}) (λ x. Within text x → Unlike text c.args.name x) c.any.ensures.ran (YieldsList-from_slice c.args.names.now cc) (λ x q a. tt) (λ x q a. (search (rules, tests), λ w. a.met.0 refl c.requires.name w)) in
    when_false _ _ e found k d (omega arith) l (c.requires.names k d l)
