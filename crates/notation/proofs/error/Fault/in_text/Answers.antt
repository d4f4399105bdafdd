use Rattle.std.proofs.Common.{take, drop, take-append-drop}
use Rattle.notation.proofs.error.Fault.in_text.Goals as goal

pub returns-in-At : goal.returns-in-At
returns-in-At c =
    let at = c.in-At.at in
    let text = c.args.text.now in
    record { front = take at text; rest = drop at text; cut = take-append-drop at text; line = c.locate.ensures.line; column = c.locate.ensures.column }
