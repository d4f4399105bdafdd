-- Bytes that stand at a place of a list. Assumes nothing.
use Rattle.std.proofs.Common.{◌≡◌, ℕ, ◌+◌, ◌<◌, List, ◌++◌, length, drop, sym, refl, ap, ◌∙◌, arith, length-append}
use Rattle.std.proofs.lemmas.List.{drop-drop, drop_at, length-drop, append_assoc}
use Rattle.patterns.specs.Lists.{Stands}

-- what begins a rest ends where the rest behind it begins
pub stands_from : (s : List ℕ) (at : ℕ) (w x : List ℕ) → 0 < length w → drop at s ≡ w ++ x → Stands s at w (at + length w)
stands_from s at w x pos e =
    let long = length-drop at s in
    let same = ap length e in
    let both = length-append w x in
    record { is = e ∙ ap (λ r. w ++ r) (sym (sym (drop-drop (length w) at s) ∙ ap (drop (length w)) e ∙ drop_at w x (length w) refl)); within = omega arith }

-- bytes that are there end as many places on
pub stands_stop : {s : List ℕ} {at : ℕ} {w : List ℕ} {stop : ℕ} → 0 < length w → Stands s at w stop → stop ≡ at + length w
stands_stop {s = s} {at = at} {w = w} {stop = stop} pos h =
    omega (arith, h.within, ap length h.is, length-append w (drop stop s), length-drop at s, length-drop stop s)

-- two stretches, one after the other
pub stands_both : {s : List ℕ} {at : ℕ} {u v : List ℕ} {mid stop : ℕ} → Stands s at u mid → Stands s mid v stop → Stands s at (u ++ v) stop
stands_both {s = s} {u = u} {v = v} {stop = stop} a b =
    record { is = a.is ∙ ap (λ r. u ++ r) b.is ∙ sym (append_assoc u v (drop stop s)); within = b.within }
