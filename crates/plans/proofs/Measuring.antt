-- Where patterns end and how many tables they need, from what is known of their parts. Assumes nothing.
use Rattle.std.proofs.Common.{◌≡◌, ℕ, ◌+◌, ◌<◌, ◌≤◌, List, [], ◌∷◌, Some, None, Option, unwrap_or, length, take, sym, refl, ap, ◌∙◌, subst, ⊎_elim, arith}
use Rattle.std.proofs.lemmas.List.{length-drop, get_or-take}
use Rattle.std.proofs.lemmas.Bool.{cases_eq}
use Rattle.patterns.specs.declared.node.Node.{Node}
use Rattle.patterns.specs.Patterns.{Pattern, nothing, empty, range, seq, union, inter, compl, star}
use Rattle.patterns.specs.Nodes.{arity}
use Rattle.patterns.specs.Promises.{PatternAt}
use Rattle.patterns.proofs.Places.{stands_stop}
use Rattle.patterns.proofs.Trees.{parts_of, parts_many, write_long}
use Rattle.patterns.proofs.Extents.{PartsAt, parts_first, pattern_later, NodeTo, node_later, pattern_opened, end_one, end_two_none}
use Rattle.plans.specs.Strahler.{higher, strahler, ExtentOf, ExtentAt, Recorded, Measured}
use Rattle.plans.specs.declared.extents.Extent.{Extent}
use Rattle.plans.specs.declared.extents.Extents.{Extents}
use Rattle.plans.proofs.Strahler.{twelve_tables}

-- what a pattern needs by its parts
abbrev needed : List Pattern → ℕ
needed [] = 1
needed (p ∷ []) = strahler p
needed (p ∷ q ∷ ps) = higher (strahler p) (strahler q)

strahler_parts : (p : Pattern) → needed (parts_of p) ≡ strahler p
strahler_parts nothing = refl
strahler_parts empty = refl
strahler_parts (range a b) = refl
strahler_parts (seq p q) = refl
strahler_parts (union p q) = refl
strahler_parts (inter p q) = refl
strahler_parts (compl p) = refl
strahler_parts (star p) = refl

few : {s : List ℕ} {at : ℕ} {p : Pattern} {stop : ℕ} → length s ≤ 4096 → PatternAt s at p stop → strahler p ≤ 12
few {p = p} short h = twelve_tables p (omega (arith, stands_stop (write_long p) h.stands, h.stands.within))

-- what was written of a place; where nothing could be, none stands
pub extent_written : {s : List ℕ} {from at : ℕ} (x : Extents) (e : Extent) → Measured s x.ends.now x.tables.now from → from ≤ at → Recorded x at (Some e) → ExtentOf s at e.end e.needed
extent_written {at = at} x e M l r = record { stops = λ p end h. r.0 ∙ M.stops at l p end h; needs = λ p end h. r.1 ∙ M.needs at l p end h }

pub extent_past : {s : List ℕ} {at : ℕ} (x : Extents) → length s ≤ length x.ends.now → length s ≤ length x.tables.now → Recorded x at None → ExtentAt s at None
extent_past x l m r p stop h = ⊎_elim (λ a. omega (arith, pattern_later h)) (λ a. omega (arith, pattern_later h)) r

pub extent_read : {s : List ℕ} {from at : ℕ} (x : Extents) (r : Option Extent) → length s ≤ length x.ends.now → length s ≤ length x.tables.now → Measured s x.ends.now x.tables.now from → from ≤ at
    → Recorded x at r → ExtentAt s at r
extent_read x (Some e) l m M near r = extent_written x e M near r
extent_read x None l m M near r = extent_past x l m r

-- where none stands, any extent is the pattern's
pub extent_or : {s : List ℕ} {at : ℕ} (r : Option Extent) (d e : Extent) → ExtentAt s at r → e ≡ unwrap_or r d → ExtentOf s at e.end e.needed
extent_or {s} {at} (Some x) d e E same = subst (λ (y : Extent). ExtentOf s at y.end y.needed) (sym same) E
extent_or None d e fails same = record { stops = λ p end h. absurd (fails p end h); needs = λ p end h. absurd (fails p end h) }

module _ {s : List ℕ} {at : ℕ} {m : Node} {next : ℕ} (r : NodeTo s at m next) where
  -- what is known of any parts that stand behind the node is known of the pattern
  by_parts : (k stop n : ℕ) → arity m ≡ k → ((ps : List Pattern) (end : ℕ) → length ps ≡ k → PartsAt s next ps end → (stop ≡ end) × (n ≡ needed ps)) → ExtentOf s at stop n
  by_parts k stop n e f = record { stops = λ p end h. (go h).0; needs = λ p end h. (go h).1 ∙ strahler_parts p }
    where
      go : {p : Pattern} {end : ℕ} → PatternAt s at p end → (stop ≡ end) × (n ≡ needed (parts_of p))
      go {p = p} {end = end} h = let o = pattern_opened r h in f (parts_of p) end (parts_many p ∙ ap arity o.node ∙ e) o.parts

  at_end : {here end : ℕ} → here ≤ length s → PartsAt s here [] end → here ≡ end
  at_end {here = here} {end = end} l h = omega (arith, ap length h.is, length-drop here s, length-drop end s, h.within)

  pub extent_leaf : arity m ≡ 0 → ExtentOf s at next 1
  extent_leaf e = by_parts 0 next 1 e go
    where
      go : (ps : List Pattern) (end : ℕ) → length ps ≡ 0 → PartsAt s next ps end → (next ≡ end) × (1 ≡ needed ps)
      go [] end l h = (at_end r.stands.within h, refl)
      go (p ∷ ps) end l h = absurd (omega arith)

  pub extent_one : {stop n : ℕ} → arity m ≡ 1 → ExtentOf s next stop n → ExtentOf s at stop n
  extent_one {stop = stop} {n = n} e E = by_parts 1 stop n e go
    where
      go : (ps : List Pattern) (end : ℕ) → length ps ≡ 1 → PartsAt s next ps end → (stop ≡ end) × (n ≡ needed ps)
      go [] end l h = absurd (omega arith)
      go (p ∷ []) end l h =
          let f = parts_first h in
          (E.stops p f.mid f.first ∙ at_end f.first.stands.within f.others, E.needs p f.mid f.first)
      go (p ∷ q ∷ ps) end l h = absurd (omega arith)

  pub extent_part : (x : Option Extent) → arity m ≡ 1 → ExtentAt s next x → ExtentAt s at x
  extent_part (Some y) e E = extent_one e E
  extent_part None e fails = end_one r None e fails

  pub extent_first_none : arity m ≡ 2 → ExtentAt s next None → ExtentAt s at None
  extent_first_none e fails = end_two_none r e fails

  pub extent_second_none : {mid a : ℕ} → arity m ≡ 2 → ExtentOf s next mid a → ExtentAt s mid None → ExtentAt s at None
  extent_second_none {mid = mid} e E fails p stop h = let o = pattern_opened r h in go (parts_of p) (parts_many p ∙ ap arity o.node ∙ e) o.parts
    where
      go : {stop : ℕ} (ps : List Pattern) → length ps ≡ 2 → PartsAt s next ps stop → ⊥
      go [] l k = omega arith
      go (p ∷ []) l k = omega arith
      go (p ∷ q ∷ ps) l k =
          let f = parts_first k in
          let g = parts_first f.others in
          fails q g.mid (subst (λ (i : ℕ). PatternAt s i q g.mid) (sym (E.stops p f.mid f.first)) g.first)

  -- the second part is looked up where the first one ends, if there is one
  pub extent_two : {mid stop a b n : ℕ} → length s ≤ 4096 → arity m ≡ 2 → ExtentOf s next mid a → (at < mid → ExtentOf s mid stop b) → (a ≤ 12 → n ≡ higher a b) → ExtentOf s at stop n
  extent_two {mid = mid} {stop = stop} {a = a} {b = b} {n = n} short e E F both = by_parts 2 stop n e go
    where
      go : (ps : List Pattern) (end : ℕ) → length ps ≡ 2 → PartsAt s next ps end → (stop ≡ end) × (n ≡ needed ps)
      go [] end l h = absurd (omega arith)
      go (p ∷ []) end l h = absurd (omega arith)
      go (p ∷ q ∷ []) end l h =
          let f = parts_first h in
          let g = parts_first f.others in
          let here : mid ≡ f.mid = E.stops p f.mid f.first in
          let second = F (omega (arith, node_later r, pattern_later f.first)) in
          let there : PatternAt s mid q g.mid = subst (λ (i : ℕ). PatternAt s i q g.mid) (sym here) g.first in
          let one : a ≡ strahler p = E.needs p f.mid f.first in
          let two : b ≡ strahler q = second.needs q g.mid there in (
            second.stops q g.mid there ∙ at_end g.first.stands.within g.others,
            both (omega (arith, few short f.first)) ∙ ap (λ (i : ℕ). higher i b) one ∙ ap (λ (i : ℕ). higher (strahler p) i) two,
          )
      go (p ∷ q ∷ o ∷ ps) end l h = absurd (omega arith)

-- measuring from the last place down to the first
pub measured_none : (s ends tables : List ℕ) (at : ℕ) → length s ≤ at → Measured s ends tables at
measured_none s ends tables at l = record {
  stops = λ k h p stop g. absurd (omega (arith, pattern_later g));
  needs = λ k h p stop g. absurd (omega (arith, pattern_later g));
}

-- nothing is read behind the list
pub measured_front : {s ends tables : List ℕ} {from : ℕ} → Measured s ends tables from → Measured s (take (length s) ends) (take (length s) tables) from
measured_front {s = s} {ends = ends} {tables = tables} M = record {
  stops = λ k l p stop h. get_or-take (length s) ends k 0 (omega (arith, pattern_later h, h.stands.within)) ∙ M.stops k l p stop h;
  needs = λ k l p stop h. get_or-take (length s) tables k 0 (omega (arith, pattern_later h, h.stands.within)) ∙ M.needs k l p stop h;
}

-- a place at which no pattern stands is left as it was
pub measured_past : {s ends tables : List ℕ} {from at : ℕ} → Measured s ends tables from → from ≤ at + 1 → ExtentAt s at None → Measured s ends tables at
measured_past {s = s} {at = at} M near fails = record {
  stops = λ k l p stop h. ⊎_elim (λ (e : k ≡ at). absurd (here k e p stop h)) (λ (d : k ≡ at → ⊥). M.stops k (omega arith) p stop h) (cases_eq k at);
  needs = λ k l p stop h. ⊎_elim (λ (e : k ≡ at). absurd (here k e p stop h)) (λ (d : k ≡ at → ⊥). M.needs k (omega arith) p stop h) (cases_eq k at);
}
  where
    here : (k : ℕ) → k ≡ at → (p : Pattern) (stop : ℕ) → PatternAt s k p stop → ⊥
    here k e p stop h = fails p stop (subst (λ (i : ℕ). PatternAt s i p stop) e h)
