use Rattle.std.proofs.Common.{refl, sym, ◌∙◌}
use Rattle.std.proofs.lemmas.Slice.Eq.{slice_eq-Decides}
use Rattle.std.proofs.lemmas.Bool.Decides.{Decides-eqb, not_from_Decides}
use Rattle.notation.proofs.lines.fn.is_used.any.Goals as goal

pub returns : goal.returns
returns c = (λ e v w s. not_from_Decides c.eq.result (slice_eq-Decides Decides-eqb _ _ _ c.eq.ensures) e (c.of.ensures.within w ∙ s ∙ sym (c.of-2.ensures.within v)), (refl, refl))
