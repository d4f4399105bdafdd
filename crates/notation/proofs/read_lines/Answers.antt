use Rattle.std.proofs.Common.{List, vec_items, sym, ap, ◌∙◌, subst}
use Rattle.notation.specs.declared.scan.Span.{Span}
use Rattle.notation.specs.Promises.{Notated}
use Rattle.notation.proofs.Naming.{notated_line}
use Rattle.notation.proofs.read_lines.Goals as goal

pub loop-reader-preserved : goal.loop-reader-preserved
loop-reader-preserved c =
    let h = c.in_ok-name.ensures in
    let text = ap (λ r. r.now) c.next_line.ensures.same ∙ c.loop-reader.invariant.0 in (
      ap (λ r. r.now) h.past.same ∙ text,
      subst (λ (ns : List Span). Notated c.args.text.now (vec_items c.line.new.list) ns) (sym c.in_ok-push.ensures.items)
          (notated_line text c.as_slice.ensures.value c.loop-reader.invariant.1 h),
    )
