-- A list and its fronts: what one pattern more tells apart, and whether it fits. Assumes nothing.
use Rattle.std.proofs.Common.{ℕ, ◌↔◌, List, [], ◌∷◌, ◌++◌, arith}
use Rattle.machines.specs.Words.{Word}
use Rattle.machines.proofs.Places.{nth_below}
use Rattle.patterns.specs.Patterns.{Pattern}
use Rattle.patterns.specs.Residuals.{Of, SameResidual}
use Rattle.patterns.specs.Sizes.{Fits}
use Rattle.patterns.specs.Searching.{anywhere, SameSearch, AllFit, FitSearch}
use Rattle.listing.specs.Listed.{SearchLaws}
use Rattle.listing.proofs.Ends.{search_nerode, nerode_search}

pub same_more : (ps : List Pattern) (p : Pattern) (u v : Word) → SameSearch (ps ++ p ∷ []) u v ↔ (SameSearch ps u v × SameResidual (Of (anywhere p)) u v)
same_more ps p u v = (into ps, from ps)
  where
    into : (ps : List Pattern) → SameSearch (ps ++ p ∷ []) u v → SameSearch ps u v × SameResidual (Of (anywhere p)) u v
    into [] e = (tt, e.0)
    into (q ∷ ps) (a, e) = let h = into ps e in ((a, h.0), h.1)

    from : (ps : List Pattern) → SameSearch ps u v × SameResidual (Of (anywhere p)) u v → SameSearch (ps ++ p ∷ []) u v
    from [] (e, d) = (d, tt)
    from (q ∷ ps) ((a, e), d) = (a, from ps (e, d))

pub same_front : (ps qs : List Pattern) (u v : Word) → SameSearch (ps ++ qs) u v → SameSearch ps u v
same_front [] qs u v e = tt
same_front (p ∷ ps) qs u v (a, e) = (a, same_front ps qs u v e)

pub fit_more : (n : ℕ) (ps : List Pattern) (p : Pattern) → AllFit n ps → Fits n (anywhere p) → AllFit n (ps ++ p ∷ [])
fit_more n [] p a f = (f, tt)
fit_more n (q ∷ ps) p (b, a) f = (b, fit_more n ps p a f)

-- the empty text is in some class
pub none_fits : (ps : List Pattern) → FitSearch 0 ps → ⊥
none_fits ps (fits, (firsts, classes, few)) = let h = classes.all [] tt in omega (arith, nth_below firsts h.0 h.1 h.2)

pub search_laws : SearchLaws
search_laws = record { nerode = λ ps u v. (search_nerode ps u v, nerode_search ps u v); none = none_fits }
