-- Which patterns end after a text, decided by its last parts and collected as bits. Assumes nothing.
use Rattle.std.proofs.Common.{◌≡◌, ℕ, zero, suc, ◌+◌, ◌-◌, ◌*◌, ◌%◌, ◌^◌, ◌<◌, ◌≤◌, Bool, true, false, leb, List, [], ◌∷◌, ◌++◌, Some, None, length, get_or, take, drop, set, sym, refl, ap, ◌∙◌, subst, ⊎_elim, mul_assoc, add-mul, pow-suc, add-one, arith}
use mathlib.Core.Option.{some}
use lib.Bits.{bit_or, or_shifted_r}
use Rattle.std.proofs.lemmas.Nat.{one_shl}
use Rattle.std.specs.Bool.{MatchBool}
use Rattle.std.specs.Iterator.{Yields}
use Rattle.std.proofs.lemmas.List.{take_at, drop_at, take_all, length-drop, length_push, take_rest, take_more, take_more_set, append_assoc, append-nil, drop_all, drop_more}
use Rattle.std.proofs.lemmas.Bool.{and_from, and_right, le-leb, cases_lt}
use Rattle.machines.specs.Words.{Word, Bytes}
use Rattle.machines.specs.Classes.{nth}
use Rattle.patterns.specs.Patterns.{Pattern, range, star, matches}
use Rattle.patterns.specs.Lists.{ListOf, write_list}
use Rattle.patterns.specs.Searching.{anywhere, bit, ends, ends_along}
use Rattle.patterns.specs.declared.list.Patterns.{Patterns}
use Rattle.patterns.specs.Promises.{PatternAt, SomePattern, SomePatterns, SomeList, Passed, PatternPassed, EndsAt, BitsAfter}
use Rattle.patterns.proofs.Trees.{one_list}
use Rattle.patterns.proofs.Extents.{PartsAt, parts_first, pattern_later}
use Rattle.patterns.proofs.Cutting.{Many, done, more, words_many, cut_some, cut_none}

-- words of bytes
pub bytes_from : (w : Word) → ((i : ℕ) → get_or w i 0 < 256) → Bytes w
bytes_from [] h = tt
bytes_from (x ∷ w) h = (h 0, bytes_from w (λ i. h (suc i)))

pub bytes_take : (k : ℕ) (w : Word) → Bytes w → Bytes (take k w)
bytes_take zero w h = tt
bytes_take (suc k) [] h = tt
bytes_take (suc k) (x ∷ w) (l, h) = (l, bytes_take k w h)

-- anything matches every word of bytes
single_bytes : (w : Word) → Bytes w → Many (matches (range 0 255)) w
single_bytes [] h = done
single_bytes (x ∷ w) (l, h) = more {u = x ∷ []} {v = w} refl (omega arith) (and_from (leb 0 x) (leb x 255) (le-leb 0 x (omega arith)) (le-leb x 255 (omega arith))) (single_bytes w h)

pub anything_matches : (w : Word) → Bytes w → matches (star (range 0 255)) w ≡ true
anything_matches w h = words_many (matches (range 0 255)) (length w) w (single_bytes w h) (omega arith)

-- a pattern ends where a last part matches
module _ (p : Pattern) (w : Word) (bytes : Bytes w) where
  pub ends_if : (r : Bool) → MatchBool r ((k : ℕ) × (k ≤ length w) × (true ≡ matches p (take (length w - k) (drop k w)))) ((k : ℕ) → k ≤ length w → false ≡ matches p (take (length w - k) (drop k w)))
      → r ≡ matches (anywhere p) w
  ends_if true (k, l, h) =
      sym (cut_some (matches (star (range 0 255))) (matches p) w (length w) k l (and_from _ _ (anything_matches (take k w) (bytes_take k w bytes)) (ap (matches p) (sym (take_rest w k)) ∙ sym h)))
  ends_if false h =
      sym (cut_none (matches (star (range 0 255))) (matches p) w (length w) (λ k l. and_right _ _ (ap (matches p) (sym (take_rest w k)) ∙ sym (h k l))))

-- The list's patterns from a place on, and the bits of those before it.
pub record Collecting (s : List ℕ) (w : Word) (bits at index : ℕ) : Type 0 where
  pub later : List Pattern
  pub there : PartsAt s at later (length s)
  pub collected : BitsAfter s w (bits + ends later w * 2 ^ index)
  pub few : index + length later ≤ 32
  pub small : bits < 2 ^ index

-- the whole list stands from its beginning
pub list_parts : {s : List ℕ} {ps : List Pattern} → ListOf s ps → PartsAt s 0 ps (length s)
list_parts {s = s} {ps = ps} o = record {
  is = sym o.written ∙ sym (append-nil (write_list ps)) ∙ ap (λ r. write_list ps ++ r) (sym (drop_all (length s) s (omega arith)));
  within = omega arith;
  sounds = o.sounds;
}

pub collecting_none : {s : List ℕ} (w : Word) → SomeList s → Collecting s w 0 0 0
collecting_none {s = s} w l = record {
  later = l.patterns;
  there = list_parts l.here;
  collected = λ ps o. let e : 0 + ends l.patterns w * 2 ^ 0 ≡ ends l.patterns w = omega arith in e ∙ ap (λ qs. ends qs w) (one_list s l.patterns ps l.here o);
  few = omega (arith, l.here.few);
  small = omega arith;
}

-- a pattern stands at a place before the end
pub parts_there : {s : List ℕ} {at : ℕ} {ps : List Pattern} → PartsAt s at ps (length s) → at < length s → (p : Pattern) × (qs : List Pattern) × (ps ≡ p ∷ qs)
parts_there {s = s} {at = at} {ps = []} h l = absurd (omega (arith, ap length h.is, length-drop at s, length-drop (length s) s))
parts_there {ps = p ∷ qs} h l = (p, qs, refl)

-- a walk over the patterns that stand from a place on
pub walk_start : {s : List ℕ} → SomeList s → SomePatterns s 0
walk_start l = let h = list_parts l.here in record { patterns = l.patterns; stand = record { is = h.is; within = h.within }; sounds = h.sounds }

walk_parts : {s : List ℕ} {at : ℕ} (w : SomePatterns s at) → PartsAt s at w.patterns (length s)
walk_parts w = record { is = w.stand.is; within = w.stand.within; sounds = w.sounds }

pub parts_begin : {s : List ℕ} {at : ℕ} {ps : List Pattern} → PartsAt s at ps (length s) → at < length s → SomePattern s at
parts_begin {s = s} {at = at} {ps = []} k l = absurd (omega (arith, ap length k.is, length-drop at s, length-drop (length s) s))
parts_begin {ps = p ∷ ps} k l = let f = parts_first k in record { pattern = p; stop = f.mid; here = f.first }

pub walk_there : {s : List ℕ} {at : ℕ} → SomePatterns s at → at < length s → SomePattern s at
walk_there w l = parts_begin (walk_parts w) l

pub walk_more : {s : List ℕ} {at : ℕ} (next : ℕ) → SomePatterns s at → at < length s → ((p : Pattern) (stop : ℕ) → PatternAt s at p stop → next ≡ stop) → (at < next) × SomePatterns s next
walk_more next w l behind = go w.patterns (walk_parts w) l behind
  where
    go : {s : List ℕ} {at : ℕ} (ps : List Pattern) → PartsAt s at ps (length s) → at < length s → ((p : Pattern) (stop : ℕ) → PatternAt s at p stop → next ≡ stop) → (at < next) × SomePatterns s next
    go {s = s} {at = at} [] k l behind = absurd (omega (arith, ap length k.is, length-drop at s, length-drop (length s) s))
    go {s = s} (p ∷ ps) k l behind =
        let f = parts_first k in
        let e : next ≡ f.mid = behind p f.mid f.first in
        let there = subst (λ (i : ℕ). PartsAt s i ps (length s)) (sym e) f.others in
        (omega (arith, pattern_later f.first), record { patterns = ps; stand = record { is = there.is; within = there.within }; sounds = there.sounds })

-- a bit above all that are set is added
pub bit_added : (bits index : ℕ) → bits < 2 ^ index → index < 32 → bit_or bits ((1 * 2 ^ index) % 2 ^ 32) ≡ bits + bit true * 2 ^ index
bit_added bits index small l =
    let one : (1 * 2 ^ index) % 2 ^ 32 ≡ 1 * 2 ^ index = one_shl index 32 l ∙ (let e : 2 ^ index ≡ 1 * 2 ^ index = omega arith in e) in
    ap (bit_or bits) one ∙ or_shifted_r 1 index bits small ∙ (let e : 1 * 2 ^ index + bits ≡ bits + 1 * 2 ^ index = omega arith in e)

pub bit_left : (bits index : ℕ) → bits ≡ bits + bit false * 2 ^ index
bit_left bits index = omega arith

-- one pattern more: its bit is x
collected_more : (bits x e index : ℕ) → (bits + x * 2 ^ index) + e * 2 ^ (index + 1) ≡ bits + (x + 2 * e) * 2 ^ index
collected_more bits x e index =
    let p = 2 ^ index in
    let twice : 2 ^ (index + 1) ≡ p * 2 = ap (λ k. 2 ^ k) (add-one index) ∙ pow-suc 2 index in
    let left : e * 2 ^ (index + 1) ≡ (e * p) * 2 = ap (λ q. e * q) twice ∙ sym (mul_assoc e p 2) in
    let right : (2 * e) * p ≡ 2 * (e * p) = mul_assoc 2 e p in
    omega (arith, left, right, add-mul x (2 * e) p)

small_more : (bits index : ℕ) (x : Bool) → bits < 2 ^ index → bits + bit x * 2 ^ index < 2 ^ (index + 1)
small_more bits index x l = let twice : 2 ^ (index + 1) ≡ 2 ^ index * 2 = ap (λ k. 2 ^ k) (add-one index) ∙ pow-suc 2 index in go x
  where
    go : (x : Bool) → bits + bit x * 2 ^ index < 2 ^ (index + 1)
    go true = omega (arith, pow-suc 2 index, ap (λ k. 2 ^ k) (add-one index))
    go false = omega (arith, pow-suc 2 index, ap (λ k. 2 ^ k) (add-one index))

pub collecting_room : {s : List ℕ} {w : Word} {bits at index : ℕ} → Collecting s w bits at index → at < length s → index < 32
collecting_room {s = s} {at = at} {index = index} c l = let h = parts_there c.there l in omega (arith, ap length h.2, c.few)

pub collecting_more : {s : List ℕ} {w : Word} {bits at index : ℕ} (bits' : ℕ) (x : Bool) (next : ℕ) → Collecting s w bits at index → at < length s → EndsAt s at w x
    → bits' ≡ bits + bit x * 2 ^ index → ((p : Pattern) (stop : ℕ) → PatternAt s at p stop → next ≡ stop) → Collecting s w bits' next (index + 1)
collecting_more {s = s} {w = w} {bits = bits} {at = at} {index = index} bits' x next c l answer is behind = go c.later c.there c.collected c.few
  where
    go : (ps : List Pattern) → PartsAt s at ps (length s) → BitsAfter s w (bits + ends ps w * 2 ^ index) → index + length ps ≤ 32 → Collecting s w bits' next (index + 1)
    go [] k b f = absurd (omega (arith, ap length k.is, length-drop at s, length-drop (length s) s))
    go (p ∷ ps) k b f =
        let h = parts_first k in
        let e = behind p h.mid h.first in
        record {
          later = ps;
          there = subst (λ (i : ℕ). PartsAt s i ps (length s)) (sym e) h.others;
          collected = λ qs o.
              ap (λ m. m + ends ps w * 2 ^ (index + 1)) (is ∙ ap (λ y. bits + bit y * 2 ^ index) (answer p h.mid h.first))
              ∙ collected_more bits (bit (matches (anywhere p) w)) (ends ps w) index ∙ b qs o;
          few = omega arith;
          small = subst (λ (m : ℕ). m < 2 ^ (index + 1)) (sym is) (small_more bits index x c.small);
        }

-- at the list's end no pattern is left
parts_end : {s : List ℕ} {at : ℕ} {ps : List Pattern} → PartsAt s at ps (length s) → length s ≤ at → ps ≡ []
parts_end {ps = []} h l = refl
parts_end {s = s} {at = at} {ps = p ∷ ps} h l = let f = parts_first h in absurd (omega (arith, pattern_later f.first))

pub collecting_all : {s : List ℕ} {w : Word} {bits at index : ℕ} → Collecting s w bits at index → length s ≤ at → BitsAfter s w bits
collecting_all {s = s} {w = w} {bits = bits} {index = index} c l ps o =
    let e : bits + ends [] w * 2 ^ index ≡ bits = omega arith in
    sym (sym (c.collected ps o) ∙ ap (λ qs. bits + ends qs w * 2 ^ index) (parts_end c.there l) ∙ e)

-- a walk over the list begins
pub collecting_start : {s : List ℕ} (w : Word) (i : Patterns) (count : ℕ) → i.list.now ≡ s → i.at ≡ 0 → count ≡ 0 → SomeList s
    → SomePatterns i.list.now i.at × (count + (length i.list.now - i.at) < 2 ^ 64) × Collecting s w 0 i.at count
collecting_start {s = s} w i count e a n l = (
  subst (λ (t : List ℕ). SomePatterns t i.at) (sym e) (subst (SomePatterns s) (sym a) (walk_start l)),
  omega (arith, ap length e, l.here.short),
  subst (λ (k : ℕ). Collecting s w 0 k count) (sym a) (subst (Collecting s w 0 0) (sym n) (collecting_none w l)),
)

-- what it comes to
pub collecting_here : {s : List ℕ} {w : Word} {bits index : ℕ} (i j : Patterns) (at : ℕ) → i.list.now ≡ s → Collecting s w bits i.at index → PatternPassed i (Some at) j → (index < 32) × SomePattern s at
collecting_here {s = s} i j at e c step =
    let h = subst (λ (t : List ℕ). Passed t i.at (Some at) j.at) e step.says in
    (collecting_room c h.0, subst (SomePattern s) (sym h.1) (parts_begin c.there h.0))

-- a turn of the walk
pub collecting_turn : {s : List ℕ} {w : Word} {bits index : ℕ} (bits' : ℕ) (x : Bool) (i j : Patterns) (at k n : ℕ) → i.list.now ≡ s → Collecting s w bits i.at index → PatternPassed i (Some at) j
    → EndsAt s at w x → k ≡ index → n ≡ index + 1 → bits' ≡ bits + bit x * 2 ^ k → (j.list.now ≡ s) × Collecting s w bits' j.at n
collecting_turn {s = s} {w = w} {bits = bits} {index = index} bits' x i j at k n e c step answer here on is =
    let h = subst (λ (t : List ℕ). Passed t i.at (Some at) j.at) e step.says in (
      step.list ∙ e,
      subst (Collecting s w bits' j.at) (sym on)
          (collecting_more bits' x j.at c h.0 (subst (λ (a : ℕ). EndsAt s a w x) h.1 answer) (is ∙ ap (λ m. bits + bit x * 2 ^ m) here) h.2),
    )

-- and its end
pub collecting_end : {s : List ℕ} {w : Word} {bits index : ℕ} (i j : Patterns) → i.list.now ≡ s → Collecting s w bits i.at index → PatternPassed i None j → BitsAfter s w bits
collecting_end i j e c step = collecting_all c (subst (λ (t : List ℕ). Passed t i.at None j.at) e step.says).0

-- The first patterns of a list passed over.
pub record Passing (s : List ℕ) (at passed : ℕ) : Type 0 where
  pub front : List Pattern
  pub later : List Pattern
  pub there : PartsAt s at later (length s)
  pub whole : ListOf s (front ++ later)
  pub long : length front ≡ passed

pub passing_none : {s : List ℕ} {ps : List Pattern} → ListOf s ps → Passing s 0 0
passing_none {ps = ps} o = record { front = []; later = ps; there = list_parts o; whole = o; long = refl }

pub passing_more : {s : List ℕ} {at passed : ℕ} (next : ℕ) → Passing s at passed → at < length s → ((p : Pattern) (stop : ℕ) → PatternAt s at p stop → next ≡ stop)
    → Passing s next (passed + 1)
passing_more {s = s} {at = at} {passed = passed} next c l behind = go c.later c.there c.whole
  where
    go : (qs : List Pattern) → PartsAt s at qs (length s) → ListOf s (c.front ++ qs) → Passing s next (passed + 1)
    go [] k w = absurd (omega (arith, ap length k.is, length-drop at s, length-drop (length s) s))
    go (q ∷ qs) k w =
        let h = parts_first k in
        record {
          front = c.front ++ q ∷ [];
          later = qs;
          there = subst (λ (i : ℕ). PartsAt s i qs (length s)) (sym (behind q h.mid h.first)) h.others;
          whole = subst (λ (ps : List Pattern). ListOf s ps) (sym (append_assoc c.front (q ∷ []) qs)) w;
          long = length_push c.front q ∙ ap (λ n. n + 1) c.long;
        }

-- the places that a walk gave were passed over
pub passing_along : {s : List ℕ} (xs : List ℕ) (i j : Patterns) (passed : ℕ) → i.list.now ≡ s → Passing s i.at passed → Yields PatternPassed i xs j
    → (j.list.now ≡ s) × Passing s j.at (passed + length xs)
passing_along {s = s} [] i j passed e c y =
    let none : passed ≡ passed + 0 = omega arith in
    subst (λ (k : Patterns). (k.list.now ≡ s) × Passing s k.at (passed + 0)) y (e, subst (Passing s i.at) none c)
passing_along {s = s} (x ∷ xs) i j passed e c (k, step, y) =
    let h = subst (λ (t : List ℕ). Passed t i.at (Some x) k.at) e step.says in
    let r = passing_along xs k j (passed + 1) (step.list ∙ e) (passing_more k.at c h.0 h.2) y in
    (r.0, subst (λ (n : ℕ). Passing s j.at n) (let e : passed + 1 + length xs ≡ passed + suc (length xs) = omega arith in e) r.1)

nth_behind : (ps : List Pattern) (q : Pattern) (qs : List Pattern) → nth (ps ++ q ∷ qs) (length ps) ≡ some q
nth_behind [] q qs = refl
nth_behind (p ∷ ps) q qs = nth_behind ps q qs

-- the pattern that comes next, by its number
pub record Next (s : List ℕ) (at passed : ℕ) : Type 0 where
  pub ps : List Pattern
  pub list : ListOf s ps
  pub pattern : Pattern
  pub stop : ℕ
  pub here : PatternAt s at pattern stop
  pub numbered : nth ps passed ≡ some pattern

pub passing_next : {s : List ℕ} {at passed : ℕ} → Passing s at passed → at < length s → Next s at passed
passing_next {s = s} {at = at} {passed = passed} c l = go c.later c.there c.whole
  where
    go : (qs : List Pattern) → PartsAt s at qs (length s) → ListOf s (c.front ++ qs) → Next s at passed
    go [] k w = absurd (omega (arith, ap length k.is, length-drop at s, length-drop (length s) s))
    go (q ∷ qs) k w = let h = parts_first k in record {
      ps = c.front ++ q ∷ qs;
      list = w;
      pattern = q;
      stop = h.mid;
      here = h.first;
      numbered = ap (nth (c.front ++ q ∷ qs)) (sym c.long) ∙ nth_behind c.front q qs;
    }

pub passing_nth : {s : List ℕ} {ps : List Pattern} (xs : List ℕ) (i t u : Patterns) (at n : ℕ) → ListOf s ps → i.list.now ≡ s → i.at ≡ 0 → Yields PatternPassed i xs t → PatternPassed t (Some at) u
    → length xs ≡ n → Next s at n
passing_nth {s = s} xs i t u at n o e a y step long =
    let p = passing_along xs i t 0 e (subst (λ (k : ℕ). Passing s k 0) (sym a) (passing_none o)) y in
    let h = subst (λ (r : List ℕ). Passed r t.at (Some at) u.at) p.0 step.says in
    let same : 0 + length xs ≡ n = omega arith in
    subst (Next s at) same (subst (λ (k : ℕ). Next s k (0 + length xs)) (sym h.1) (passing_next p.1 h.0))

-- at the end there are no more
pub passing_all : {s : List ℕ} {at passed : ℕ} → Passing s at passed → length s ≤ at → (ps : List Pattern) → ListOf s ps → length ps ≡ passed
passing_all {s = s} {passed = passed} c l ps o =
    ap length (one_list s ps (c.front ++ c.later) o c.whole) ∙ ap (λ qs. length (c.front ++ qs)) (parts_end c.there l) ∙ ap length (append-nil c.front) ∙ c.long

-- there are more before the list's number of them
pub passing_there : {s : List ℕ} {at passed : ℕ} {ps : List Pattern} → Passing s at passed → ListOf s ps → passed < length ps → at < length s
passing_there {s = s} {at = at} {ps = ps} c o few = ⊎_elim (λ l. l) (λ l. absurd (omega (arith, passing_all c l ps o))) (cases_lt at (length s))

pub passing_end : {s : List ℕ} (xs : List ℕ) (i t u : Patterns) → i.list.now ≡ s → i.at ≡ 0 → Yields PatternPassed i xs t → PatternPassed t None u → (ps : List Pattern) → ListOf s ps → length ps ≡ length xs
passing_end {s = s} xs i t u e a y step ps o =
    let p = passing_along xs i t 0 e (subst (λ (k : ℕ). Passing s k 0) (sym a) (passing_none o)) y in
    let h = subst (λ (r : List ℕ). Passed r t.at None u.at) p.0 step.says in
    omega (arith, passing_all p.1 h.0 ps o)

-- The bits after the first i bytes of a text are written; what is to come is the bits after the others.
pub record Searching (s : List ℕ) (w : Word) (o : List ℕ) (i : ℕ) : Type 0 where
  pub written : (ps : List Pattern) → ListOf s ps → take i o ++ ends_along ps (take i w) (drop i w) ≡ ends_along ps [] w

pub searching_more : {s : List ℕ} {w : Word} {o : List ℕ} {i : ℕ} (bits : ℕ) → i < length w → length w ≤ length o → BitsAfter s (take (i + 1) w) bits
    → Searching s w o i → Searching s w (set o i bits) (i + 1)
searching_more {s = s} {w = w} {o = o} {i = i} bits l room b h =
    let there : i < length o = omega arith in
    record {
      written = λ ps k.
          let now : bits ≡ ends ps (take i w ++ get_or w i 0 ∷ []) = b ps k ∙ ap (ends ps) (take_more w i 0 l) in
          ap (λ r. r ++ ends_along ps (take (i + 1) w) (drop (i + 1) w)) (take_more_set o i bits there)
          ∙ append_assoc (take i o) (bits ∷ []) (ends_along ps (take (i + 1) w) (drop (i + 1) w))
          ∙ ap (λ r. take i o ++ (bits ∷ ends_along ps r (drop (i + 1) w))) (take_more w i 0 l)
          ∙ ap (λ x. take i o ++ (x ∷ ends_along ps (take i w ++ get_or w i 0 ∷ []) (drop (i + 1) w))) now
          ∙ ap (λ r. take i o ++ ends_along ps (take i w) r) (sym (drop_more w i 0 l))
          ∙ h.written ps k;
    }

-- all are written, and what lies behind is added
pub searching_all : {s : List ℕ} {w : Word} {o : List ℕ} {i : ℕ} (rest : List ℕ) → length w ≤ i → length o ≡ length w → Searching s w o i → (ps : List Pattern) → ListOf s ps
    → (take (length w) (o ++ rest) ≡ ends_along ps [] w) × (drop (length w) (o ++ rest) ≡ rest)
searching_all {w = w} {o = o} {i = i} rest l long h ps k =
    let all = sym (h.written ps k) ∙ ap (λ r. take i o ++ ends_along ps (take i w) r) (drop_all i w l) ∙ append-nil (take i o) ∙ take_all i o (omega arith) in
    (take_at o rest (length w) long ∙ sym all, drop_at o rest (length w) long)
