-- The reader goes on, and then further. Assumes nothing.
use Rattle.std.proofs.Common.{◌≡◌, refl, ◌∙◌, subst, arith}
use Rattle.notation.specs.declared.scan.Reader.{Reader}
use Rattle.notation.specs.Reading.{On, Past}

pub on_none : (s : Reader) → On s s
on_none s = record { same = refl; on = omega arith }

pub on_past : {s t : Reader} → Past s t → On s t
on_past h = record { same = h.same; on = omega (arith, h.on) }

pub on_on : {s t u : Reader} → On s t → On t u → On s u
on_on h g = record { same = g.same ∙ h.same; on = omega (arith, h.on, g.on) }

pub past_on : {s t u : Reader} → Past s t → On t u → Past s u
past_on h g = record { same = g.same ∙ h.same; there = h.there; on = omega (arith, h.on, g.on) }

pub past_past : {s t u : Reader} → Past s t → Past t u → Past s u
past_past h g = past_on h (on_past g)

-- a reader that stayed
pub past_same : {s t u : Reader} → s ≡ t → Past s u → Past t u
past_same {u = u} e h = subst (λ r. Past r u) e h
