-- Where patterns stand in a list's bytes, from the node at their top and from the patterns before them. Assumes nothing.
use Rattle.std.proofs.Common.{◌≡◌, ℕ, ◌+◌, ◌<◌, ◌≤◌, true, List, [], ◌∷◌, ◌++◌, length, drop, Some, None, Option, sym, refl, ap, ◌∙◌, subst, ⊎_elim, arith, length-append}
use Rattle.std.proofs.lemmas.List.{append-nil, append_assoc, append_cancel_left, drop_all, length-drop, length_push}
use Rattle.std.proofs.lemmas.Bool.{and_parts, and_from, cases_lt}
use Rattle.patterns.specs.declared.node.Node.{Node}
use Rattle.patterns.specs.declared.node.Node.TheVariants.{Nothing, Empty, Range, Sequence, Union, Intersection, Complement, Star}
use Rattle.patterns.specs.Patterns.{Pattern}
use Rattle.patterns.specs.Lists.{write, write_list, sound, sound_list, ListOf, Stands}
use Rattle.patterns.specs.Nodes.{node_bytes, node_sound, arity}
use Rattle.patterns.specs.Promises.{NodeAt, PatternAt, PatternRead, ListRead}
use Rattle.patterns.proofs.Places.{stands_from, stands_stop}
use Rattle.patterns.proofs.Decoding.{decode, decode_node, node_long}
use Rattle.patterns.proofs.Trees.{node_of, parts_of, build, built_as, written_parts, sound_parts, parts_many, build_written, build_sound, write_long, write_append, sound_append, one_pattern, prefix_list, one_list}

-- patterns one after the other, from a place to a place
pub record PartsAt (s : List ℕ) (at : ℕ) (ps : List Pattern) (stop : ℕ) : Type 0 where
  pub is : drop at s ≡ write_list ps ++ drop stop s
  pub within : stop ≤ length s
  pub sounds : sound_list ps ≡ true

pub parts_none : (s : List ℕ) (at : ℕ) → at ≤ length s → PartsAt s at [] at
parts_none s at h = record { is = refl; within = h; sounds = refl }

pub parts_more : {s : List ℕ} {at : ℕ} {p : Pattern} {ps : List Pattern} {mid stop : ℕ} → PatternAt s at p mid → PartsAt s mid ps stop → PartsAt s at (p ∷ ps) stop
parts_more {s = s} {p = p} {ps = ps} {stop = stop} h k = record {
  is = h.stands.is ∙ ap (λ r. write p ++ r) k.is ∙ sym (append_assoc (write p) (write_list ps) (drop stop s));
  within = k.within;
  sounds = and_from (sound p) (sound_list ps) h.sounds k.sounds;
}

-- the first of them, and the others behind it
pub record Parted (s : List ℕ) (at : ℕ) (p : Pattern) (ps : List Pattern) (stop : ℕ) : Type 0 where
  pub mid : ℕ
  pub first : PatternAt s at p mid
  pub others : PartsAt s mid ps stop

pub parts_first : {s : List ℕ} {at : ℕ} {p : Pattern} {ps : List Pattern} {stop : ℕ} → PartsAt s at (p ∷ ps) stop → Parted s at p ps stop
parts_first {s = s} {at = at} {p = p} {ps = ps} {stop = stop} h =
    let o = and_parts (sound p) (sound_list ps) h.sounds in
    let e = h.is ∙ append_assoc (write p) (write_list ps) (drop stop s) in
    let mid = at + length (write p) in
    let st = stands_from s at (write p) (write_list ps ++ drop stop s) (write_long p) e in
    record {
      mid = mid;
      first = record { stands = st; sounds = o.0 };
      others = record { is = append_cancel_left (write p) (drop mid s) (write_list ps ++ drop stop s) (sym st.is ∙ e); within = h.within; sounds = o.1 };
    }

-- where parts are wanted and none can begin, none stand
pub first_fails : {s : List ℕ} {next k : ℕ} {ps : List Pattern} {stop : ℕ} → (length ps ≡ k) × PartsAt s next ps stop → 0 < k → PatternRead s next None → ⊥
first_fails {ps = []} (l, h) pos fails = omega arith
first_fails {ps = p ∷ ps} (l, h) pos fails = let f = parts_first h in fails p f.mid f.first

-- a pattern ends at one place, and is one pattern
pub same_pattern : {s : List ℕ} {at : ℕ} {p q : Pattern} {stop end : ℕ} → PatternAt s at p stop → PatternAt s at q end → (p ≡ q) × (stop ≡ end)
same_pattern {s = s} {p = p} {q = q} {stop = stop} {end = end} a b =
    let e = one_pattern p q (drop stop s) (drop end s) a.sounds b.sounds (sym a.stands.is ∙ b.stands.is) in
    (e.0, omega (arith, ap length e.1, length-drop stop s, length-drop end s, a.stands.within, b.stands.within))

pub pattern_later : {s : List ℕ} {at : ℕ} {p : Pattern} {stop : ℕ} → PatternAt s at p stop → (at < stop) × (stop ≤ length s)
pattern_later {p = p} h = (omega (arith, stands_stop (write_long p) h.stands, write_long p), h.stands.within)

-- the node at a place, up to the place where its parts begin
pub record NodeTo (s : List ℕ) (at : ℕ) (n : Node) (next : ℕ) : Type 0 where
  pub stands : Stands s at (node_bytes n) next
  pub sounds : node_sound n ≡ true

pub node_to : {s : List ℕ} {at : ℕ} {n : Node} (width : ℕ) → NodeAt s at n → width ≡ length (node_bytes n) → NodeTo s at n (at + width)
node_to {s = s} {at = at} {n = n} width r e = record { stands = subst (λ (k : ℕ). Stands s at (node_bytes n) (at + k)) (sym e) r.stands; sounds = r.sounds }

pub node_later : {s : List ℕ} {at : ℕ} {n : Node} {next : ℕ} → NodeTo s at n next → (at < next) × (next ≤ length s)
node_later {n = n} r = (omega (arith, stands_stop (node_long n) r.stands, node_long n), r.stands.within)

-- it is the node of the pattern there, and that pattern's parts stand behind it
pub record Opened (s : List ℕ) (next : ℕ) (n : Node) (p : Pattern) (stop : ℕ) : Type 0 where
  pub node : node_of p ≡ n
  pub parts : PartsAt s next (parts_of p) stop

-- a pattern's bytes, its node first
opened_bytes : {s : List ℕ} {at : ℕ} {p : Pattern} {stop : ℕ} → PatternAt s at p stop → drop at s ≡ node_bytes (node_of p) ++ (write_list (parts_of p) ++ drop stop s)
opened_bytes {s = s} {p = p} {stop = stop} h = h.stands.is ∙ ap (λ w. w ++ drop stop s) (written_parts p) ∙ append_assoc (node_bytes (node_of p)) (write_list (parts_of p)) (drop stop s)

opened_sounds : {s : List ℕ} {at : ℕ} {p : Pattern} {stop : ℕ} → PatternAt s at p stop → (node_sound (node_of p) ≡ true) × (sound_list (parts_of p) ≡ true)
opened_sounds {p = p} h = and_parts (node_sound (node_of p)) (sound_list (parts_of p)) (sym (sound_parts p) ∙ h.sounds)

pub pattern_opened : {s : List ℕ} {at : ℕ} {n : Node} {next : ℕ} {p : Pattern} {stop : ℕ} → NodeTo s at n next → PatternAt s at p stop → Opened s next n p stop
pattern_opened {s = s} {at = at} {n = n} {next = next} {p = p} {stop = stop} r h =
    let o = opened_sounds h in
    let e = opened_bytes h in
    let found : decode (drop at s) ≡ Some (node_of p) = ap decode e ∙ decode_node (node_of p) _ o.0 in
    let read : decode (drop at s) ≡ Some n = ap decode r.stands.is ∙ decode_node n (drop next s) r.sounds in
    let same : node_of p ≡ n = cc in
    record {
      node = same;
      parts = record {
        is = append_cancel_left (node_bytes n) (drop next s) _ (sym r.stands.is ∙ e ∙ ap (λ m. node_bytes m ++ (write_list (parts_of p) ++ drop stop s)) same);
        within = h.stands.within;
        sounds = o.1;
      };
    }

-- a node with parts behind it is a pattern
pub pattern_built : {s : List ℕ} {at : ℕ} {n : Node} {next : ℕ} {ps : List Pattern} {stop : ℕ} → NodeTo s at n next → length ps ≡ arity n → PartsAt s next ps stop → PatternAt s at (build n ps) stop
pattern_built {s = s} {n = n} {ps = ps} {stop = stop} r e h = record {
  stands = record {
    is = r.stands.is ∙ ap (λ w. node_bytes n ++ w) h.is ∙ sym (append_assoc (node_bytes n) (write_list ps) (drop stop s)) ∙ ap (λ w. w ++ drop stop s) (sym (build_written n ps e));
    within = h.within;
  };
  sounds = build_sound n ps e r.sounds h.sounds;
}

pub arity_most : (n : Node) → arity n ≤ 2
arity_most Nothing = omega arith
arity_most Empty = omega arith
arity_most (Range a b) = omega arith
arity_most Sequence = omega arith
arity_most Union = omega arith
arity_most Intersection = omega arith
arity_most Complement = omega arith
arity_most Star = omega arith

-- the reader's answer: no node, or by the number of parts
pub end_none : {s : List ℕ} {at : ℕ} → ((n : Node) → NodeAt s at n → ⊥) → PatternRead s at None
end_none {s = s} {at = at} fails p stop h = fails (node_of p) (record { stands = stands_from s at (node_bytes (node_of p)) _ (node_long (node_of p)) (opened_bytes h); sounds = (opened_sounds h).0 })

module _ {s : List ℕ} {at : ℕ} {n : Node} {next : ℕ} (r : NodeTo s at n next) where
  -- the parts of any pattern that is there
  any_parts : {p : Pattern} {stop : ℕ} → PatternAt s at p stop → (length (parts_of p) ≡ arity n) × PartsAt s next (parts_of p) stop
  any_parts {p = p} h = let o = pattern_opened r h in (parts_many p ∙ ap arity o.node, o.parts)

  pub end_leaf : arity n ≡ 0 → PatternRead s at (Some next)
  end_leaf e = (build n [], pattern_built r (sym e) (parts_none s next r.stands.within))

  pub end_one : (x : Option ℕ) → arity n ≡ 1 → PatternRead s next x → PatternRead s at x
  end_one (Some stop) e (p, h) = (build n (p ∷ []), pattern_built r (sym e) (parts_more h (parts_none s stop h.stands.within)))
  end_one None e fails = λ p stop h. first_fails (any_parts h) (omega arith) fails

  pub end_two : (mid : ℕ) (x : Option ℕ) → arity n ≡ 2 → PatternRead s next (Some mid) → PatternRead s mid x → PatternRead s at x
  end_two mid (Some stop) e (p, h) (q, k) = (build n (p ∷ q ∷ []), pattern_built r (sym e) (parts_more h (parts_more k (parts_none s stop k.stands.within))))
  end_two mid None e (p, h) fails = λ q stop k. let a = any_parts k in go (parts_of q) (a.0 ∙ e) a.1
    where
      go : {stop : ℕ} (ps : List Pattern) → length ps ≡ 2 → PartsAt s next ps stop → ⊥
      go [] l k = omega arith
      go (a ∷ []) l k = omega arith
      go (a ∷ b ∷ ps) l k =
          let f = parts_first k in
          let g = parts_first f.others in
          fails b g.mid (subst (λ (i : ℕ). PatternAt s i b g.mid) (same_pattern f.first h).1 g.first)

  pub end_two_none : arity n ≡ 2 → PatternRead s next None → PatternRead s at None
  end_two_none e fails p stop h = first_fails (any_parts h) (omega arith) fails

-- a pattern that stands here is the node over as many parts as it takes, which stand behind it
module _ {s : List ℕ} {at : ℕ} {m : Node} {next : ℕ} (r : NodeTo s at m next) where
  pub taken_apart : {p : Pattern} {stop : ℕ} → PatternAt s at p stop → (ps : List Pattern) × (p ≡ build m ps) × (length ps ≡ arity m) × PartsAt s next ps stop
  taken_apart {p = p} h = let o = pattern_opened r h in (parts_of p, built_as p m o.node, parts_many p ∙ ap arity o.node, o.parts)

  -- what holds of the node over whatever stands behind it, holds of the pattern
  module _ (Q : Pattern → Type 0) where
    pub by_leaf : arity m ≡ 0 → Q (build m []) → (p : Pattern) (stop : ℕ) → PatternAt s at p stop → Q p
    by_leaf none f p stop h = let a = taken_apart h in go a.0 a.1 (a.2 ∙ none)
      where
        go : (ps : List Pattern) → p ≡ build m ps → length ps ≡ 0 → Q p
        go [] e l = subst Q (sym e) f
        go (a ∷ ps) e l = absurd (omega arith)

    pub by_one : arity m ≡ 1 → ((a : Pattern) (stop : ℕ) → PatternAt s next a stop → Q (build m (a ∷ []))) → (p : Pattern) (stop : ℕ) → PatternAt s at p stop → Q p
    by_one one f p stop h = let a = taken_apart h in go a.0 a.1 (a.2 ∙ one) a.3
      where
        go : (ps : List Pattern) → p ≡ build m ps → length ps ≡ 1 → PartsAt s next ps stop → Q p
        go [] e l k = absurd (omega arith)
        go (a ∷ []) e l k = let i = parts_first k in subst Q (sym e) (f a i.mid i.first)
        go (a ∷ b ∷ ps) e l k = absurd (omega arith)

    pub by_two : arity m ≡ 2 → ((a b : Pattern) (mid stop : ℕ) → PatternAt s next a mid → PatternAt s mid b stop → Q (build m (a ∷ b ∷ []))) → (p : Pattern) (stop : ℕ) → PatternAt s at p stop → Q p
    by_two two f p stop h = let a = taken_apart h in go a.0 a.1 (a.2 ∙ two) a.3
      where
        go : (ps : List Pattern) → p ≡ build m ps → length ps ≡ 2 → PartsAt s next ps stop → Q p
        go [] e l k = absurd (omega arith)
        go (a ∷ []) e l k = absurd (omega arith)
        go (a ∷ b ∷ []) e l k = let i = parts_first k in let j = parts_first i.others in subst Q (sym e) (f a b i.mid j.mid i.first j.first)
        go (a ∷ b ∷ c ∷ ps) e l k = absurd (omega arith)

-- A list read up to a place: the patterns before it.
pub record Reading (s : List ℕ) (at count : ℕ) : Type 0 where
  pub ps : List Pattern
  pub front : PartsAt s 0 ps at
  pub many : length ps ≡ count

parts_push : {s : List ℕ} {at : ℕ} {ps : List Pattern} {mid : ℕ} {p : Pattern} {stop : ℕ} → PartsAt s at ps mid → PatternAt s mid p stop → PartsAt s at (ps ++ p ∷ []) stop
parts_push {s = s} {ps = ps} {p = p} {stop = stop} a h = record {
  is = a.is ∙ ap (λ r. write_list ps ++ r) (h.stands.is ∙ ap (λ w. w ++ drop stop s) (sym (append-nil (write p)))) ∙ sym (append_assoc (write_list ps) (write p ++ []) (drop stop s)) ∙ ap (λ w. w ++ drop stop s) (sym (write_append ps (p ∷ [])));
  within = h.stands.within;
  sounds = sound_append ps (p ∷ []) a.sounds (and_from (sound p) true h.sounds refl);
}

pub reading_more : {s : List ℕ} {at count stop : ℕ} → Reading s at count → PatternRead s at (Some stop) → Reading s stop (count + 1)
reading_more r (p, h) = record { ps = r.ps ++ p ∷ []; front = parts_push r.front h; many = length_push r.ps p ∙ ap (λ k. k + 1) r.many }

-- any list of these bytes goes on with patterns behind those that were read
pub record Further (s : List ℕ) (at : ℕ) (ps qs : List Pattern) : Type 0 where
  pub next : Pattern
  pub later : List Pattern
  pub is : qs ≡ ps ++ next ∷ later
  pub there : PartsAt s at (next ∷ later) (length s)

sound_rest : (ps rs : List Pattern) → sound_list (ps ++ rs) ≡ true → sound_list rs ≡ true
sound_rest [] rs h = h
sound_rest (p ∷ ps) rs h = sound_rest ps rs (and_parts (sound p) (sound_list (ps ++ rs)) h).1

pub further : (s : List ℕ) (at : ℕ) (ps : List Pattern) → PartsAt s 0 ps at → at < length s → (qs : List Pattern) → ListOf s qs → Further s at ps qs
further s at ps front h qs o = ⊎_elim
    (λ (l : length qs < length ps).
    let r = prefix_list qs ps [] (drop at s) (omega arith) o.sounds front.sounds (append-nil (write_list qs) ∙ o.written ∙ front.is) in
    absurd (omega (arith, ap length r.2, length-append (write_list r.0) (drop at s), length-drop at s)))
    (λ (l : length ps ≤ length qs).
    let r = prefix_list ps qs (drop at s) [] l front.sounds o.sounds (sym front.is ∙ sym o.written ∙ sym (append-nil (write_list qs))) in
    go r.0 r.1 r.2)
    (cases_lt (length qs) (length ps))
  where
    go : (rs : List Pattern) → qs ≡ ps ++ rs → drop at s ≡ write_list rs ++ [] → Further s at ps qs
    go [] e f = absurd (omega (arith, ap length f, length-drop at s))
    go (r ∷ rs) e f = record {
      next = r;
      later = rs;
      is = e;
      there = record {
        is = f ∙ ap (λ w. write_list (r ∷ rs) ++ w) (sym (drop_all (length s) s (omega arith)));
        within = omega arith;
        sounds = sound_rest ps (r ∷ rs) (sym (ap sound_list e) ∙ o.sounds);
      };
    }

-- the reader of a list: too long; too many; one that is none; all read
pub list_long : (s : List ℕ) → 4096 < length s → ListRead s None
list_long s h = record { says = λ ps o. omega (arith, o.short); only = one_list }

-- there is more behind as many patterns as a list has at most
pub list_full : {s : List ℕ} {at count : ℕ} → Reading s at count → count ≡ 32 → at < length s → ListRead s None
list_full {s = s} {at = at} r full h = record {
  says = λ qs o. let f = further s at r.ps r.front h qs o in omega (arith, ap length f.is, length-append r.ps (f.next ∷ f.later), r.many, full, o.few);
  only = one_list;
}

pub list_many : {s : List ℕ} {at count : ℕ} → Reading s at count → 32 < count → ListRead s None
list_many {s = s} {at = at} r h = record {
  says = λ qs o.
      let l = prefix_list qs r.ps [] (drop at s) (omega (arith, r.many, o.few)) o.sounds r.front.sounds (append-nil (write_list qs) ∙ o.written ∙ r.front.is) in
      more l.0 qs o.few l.1 (omega (arith, ap length l.2, length-append (write_list l.0) (drop at s)));
  only = one_list;
}
  where
    more : (rs qs : List Pattern) → length qs ≤ 32 → r.ps ≡ qs ++ rs → length (write_list rs) ≡ 0 → ⊥
    more [] qs few e l = omega (arith, r.many, ap length e, length-append qs [])
    more (p ∷ rs) qs few e l = omega (arith, write_long p, length-append (write p) (write_list rs))

pub list_none : {s : List ℕ} {at count : ℕ} → Reading s at count → at < length s → PatternRead s at None → ListRead s None
list_none {s = s} {at = at} r h fails = record {
  says = λ qs o. let f = parts_first (further s at r.ps r.front h qs o).there in fails _ f.mid f.first;
  only = one_list;
}

pub list_all : {s : List ℕ} {at count : ℕ} → length s ≤ 4096 → Reading s at count → count ≤ 32 → length s ≤ at → ListRead s (Some count)
list_all {s = s} {at = at} short r few h = record {
  says = (
    r.ps,
    record {
      written = sym (r.front.is ∙ ap (λ w. write_list r.ps ++ w) (drop_all at s h) ∙ append-nil (write_list r.ps));
      sounds = r.front.sounds;
      few = omega (arith, r.many);
      short = short;
    },
    r.many,
  );
  only = one_list;
}
