-- A pattern is a node over its parts, and bytes are the writing of at most one list. Assumes nothing.
--   node_of p, parts_of p    the node at p's top, and what stands below it
--   build n ps               the pattern of a node and its parts
use Rattle.std.proofs.Common.{◌≡◌, ℕ, zero, suc, ◌<◌, ◌≤◌, Bool, true, false, ◌&&◌, List, [], ◌∷◌, ◌++◌, length, get_or, Some, sym, refl, ap, ◌∙◌, ⊎_elim, arith, length-append}
use Rattle.std.proofs.lemmas.List.{append-nil, append_assoc, append_cancel_left}
use Rattle.std.proofs.lemmas.Bool.{and_parts, and_from, cases_lt}
use Rattle.patterns.specs.declared.node.Node.{Node}
use Rattle.patterns.specs.declared.node.Node.TheVariants.{Nothing, Empty, Range, Sequence, Union, Intersection, Complement, Star}
use Rattle.patterns.specs.Patterns.{Pattern, nothing, empty, range, seq, union, inter, compl, star}
use Rattle.patterns.specs.Lists.{write, write_list, sound, sound_list, OneList}
use Rattle.patterns.specs.Nodes.{node_bytes, node_sound, arity}
use Rattle.patterns.proofs.Decoding.{decode, decode_node, node_long}

abbrev pub node_of : Pattern → Node
node_of nothing = Nothing
node_of empty = Empty
node_of (range a b) = Range a b
node_of (seq p q) = Sequence
node_of (union p q) = Union
node_of (inter p q) = Intersection
node_of (compl p) = Complement
node_of (star p) = Star

abbrev pub parts_of : Pattern → List Pattern
parts_of nothing = []
parts_of empty = []
parts_of (range a b) = []
parts_of (seq p q) = p ∷ q ∷ []
parts_of (union p q) = p ∷ q ∷ []
parts_of (inter p q) = p ∷ q ∷ []
parts_of (compl p) = p ∷ []
parts_of (star p) = p ∷ []

-- the first and the second part of a node
abbrev pub part : List Pattern → ℕ → Pattern
part ps i = get_or ps i nothing

abbrev pub build : Node → List Pattern → Pattern
build Nothing ps = nothing
build Empty ps = empty
build (Range a b) ps = range a b
build Sequence ps = seq (part ps 0) (part ps 1)
build Union ps = union (part ps 0) (part ps 1)
build Intersection ps = inter (part ps 0) (part ps 1)
build Complement ps = compl (part ps 0)
build Star ps = star (part ps 0)

-- taken apart and built again
pub rebuilt : (p : Pattern) → p ≡ build (node_of p) (parts_of p)
rebuilt nothing = refl
rebuilt empty = refl
rebuilt (range a b) = refl
rebuilt (seq p q) = refl
rebuilt (union p q) = refl
rebuilt (inter p q) = refl
rebuilt (compl p) = refl
rebuilt (star p) = refl

pub built_as : (p : Pattern) (n : Node) → node_of p ≡ n → p ≡ build n (parts_of p)
built_as p n e = rebuilt p ∙ ap (λ m. build m (parts_of p)) e

-- built and taken apart again
none_left : (ps : List Pattern) → length ps ≡ 0 → [] ≡ ps
none_left [] e = refl
none_left (p ∷ ps) e = absurd (omega arith)

one_left : (ps : List Pattern) → length ps ≡ 1 → part ps 0 ∷ [] ≡ ps
one_left [] e = absurd (omega arith)
one_left (p ∷ []) e = refl
one_left (p ∷ q ∷ ps) e = absurd (omega arith)

two_left : (ps : List Pattern) → length ps ≡ 2 → part ps 0 ∷ part ps 1 ∷ [] ≡ ps
two_left [] e = absurd (omega arith)
two_left (p ∷ []) e = absurd (omega arith)
two_left (p ∷ q ∷ []) e = refl
two_left (p ∷ q ∷ r ∷ ps) e = absurd (omega arith)

pub build_node : (n : Node) (ps : List Pattern) → node_of (build n ps) ≡ n
build_node Nothing ps = refl
build_node Empty ps = refl
build_node (Range a b) ps = refl
build_node Sequence ps = refl
build_node Union ps = refl
build_node Intersection ps = refl
build_node Complement ps = refl
build_node Star ps = refl

pub build_parts : (n : Node) (ps : List Pattern) → length ps ≡ arity n → parts_of (build n ps) ≡ ps
build_parts Nothing ps e = none_left ps e
build_parts Empty ps e = none_left ps e
build_parts (Range a b) ps e = none_left ps e
build_parts Sequence ps e = two_left ps e
build_parts Union ps e = two_left ps e
build_parts Intersection ps e = two_left ps e
build_parts Complement ps e = one_left ps e
build_parts Star ps e = one_left ps e

-- what is written and what is sound of the whole and of its parts
pub parts_many : (p : Pattern) → length (parts_of p) ≡ arity (node_of p)
parts_many nothing = refl
parts_many empty = refl
parts_many (range a b) = refl
parts_many (seq p q) = refl
parts_many (union p q) = refl
parts_many (inter p q) = refl
parts_many (compl p) = refl
parts_many (star p) = refl

two_written : (k : ℕ) (p q : Pattern) → k ∷ (write p ++ write q) ≡ k ∷ (write p ++ (write q ++ []))
two_written k p q = ap (λ r. k ∷ (write p ++ r)) (sym (append-nil (write q)))

one_written : (k : ℕ) (p : Pattern) → k ∷ write p ≡ k ∷ (write p ++ [])
one_written k p = ap (λ r. k ∷ r) (sym (append-nil (write p)))

pub written_parts : (p : Pattern) → write p ≡ node_bytes (node_of p) ++ write_list (parts_of p)
written_parts nothing = refl
written_parts empty = refl
written_parts (range a b) = refl
written_parts (seq p q) = two_written 3 p q
written_parts (union p q) = two_written 4 p q
written_parts (inter p q) = two_written 5 p q
written_parts (compl p) = one_written 6 p
written_parts (star p) = one_written 7 p

and_end : (x : Bool) → x ≡ (x && true)
and_end true = refl
and_end false = refl

both_end : (x y : Bool) → (x && y) ≡ (x && (y && true))
both_end true y = and_end y
both_end false y = refl

pub sound_parts : (p : Pattern) → sound p ≡ (node_sound (node_of p) && sound_list (parts_of p))
sound_parts nothing = refl
sound_parts empty = refl
sound_parts (range a b) = and_end _
sound_parts (seq p q) = both_end (sound p) (sound q)
sound_parts (union p q) = both_end (sound p) (sound q)
sound_parts (inter p q) = both_end (sound p) (sound q)
sound_parts (compl p) = and_end (sound p)
sound_parts (star p) = and_end (sound p)

pub build_written : (n : Node) (ps : List Pattern) → length ps ≡ arity n → write (build n ps) ≡ node_bytes n ++ write_list ps
build_written n ps e = written_parts (build n ps) ∙ ap (λ m. node_bytes m ++ write_list (parts_of (build n ps))) (build_node n ps) ∙ ap (λ qs. node_bytes n ++ write_list qs) (build_parts n ps e)

pub build_sound : (n : Node) (ps : List Pattern) → length ps ≡ arity n → node_sound n ≡ true → sound_list ps ≡ true → sound (build n ps) ≡ true
build_sound n ps e a b =
    sound_parts (build n ps) ∙ ap (λ m. node_sound m && sound_list (parts_of (build n ps))) (build_node n ps)
    ∙ ap (λ qs. node_sound n && sound_list qs) (build_parts n ps e) ∙ and_from (node_sound n) (sound_list ps) a b

pub write_long : (p : Pattern) → 0 < length (write p)
write_long p = omega (arith, ap length (written_parts p), length-append (node_bytes (node_of p)) (write_list (parts_of p)), node_long (node_of p))

-- patterns one after the other
pub write_append : (ps qs : List Pattern) → write_list (ps ++ qs) ≡ write_list ps ++ write_list qs
write_append [] qs = refl
write_append (p ∷ ps) qs = ap (λ r. write p ++ r) (write_append ps qs) ∙ sym (append_assoc (write p) (write_list ps) (write_list qs))

pub sound_append : (ps qs : List Pattern) → sound_list ps ≡ true → sound_list qs ≡ true → sound_list (ps ++ qs) ≡ true
sound_append [] qs a b = b
sound_append (p ∷ ps) qs a b = let h = and_parts (sound p) (sound_list ps) a in and_from (sound p) (sound_list (ps ++ qs)) h.0 (sound_append ps qs h.1 b)

-- patterns whose first is opened: its node, then its parts and the others
opened_written : (p : Pattern) (ps : List Pattern) (x : List ℕ) → write_list (p ∷ ps) ++ x ≡ node_bytes (node_of p) ++ (write_list (parts_of p ++ ps) ++ x)
opened_written p ps x =
    let node = node_bytes (node_of p) in
    ap (λ r. (r ++ write_list ps) ++ x) (written_parts p)
    ∙ ap (λ r. r ++ x) (append_assoc node (write_list (parts_of p)) (write_list ps))
    ∙ append_assoc node (write_list (parts_of p) ++ write_list ps) x
    ∙ ap (λ r. node ++ (r ++ x)) (sym (write_append (parts_of p) ps))

opened_sound : (p : Pattern) (ps : List Pattern) → sound_list (p ∷ ps) ≡ true → (node_sound (node_of p) ≡ true) × (sound_list (parts_of p ++ ps) ≡ true)
opened_sound p ps h =
    let a = and_parts (sound p) (sound_list ps) h in
    let b = and_parts (node_sound (node_of p)) (sound_list (parts_of p)) (sym (sound_parts p) ∙ a.0) in
    (b.0, sound_append (parts_of p) ps b.1 a.1)

same_fronts : (cs bs xs ys : List Pattern) → length cs ≡ length bs → cs ++ xs ≡ bs ++ ys → (cs ≡ bs) × (xs ≡ ys)
same_fronts [] [] xs ys l e = (refl, e)
same_fronts [] (b ∷ bs) xs ys l e = absurd (omega arith)
same_fronts (a ∷ cs) [] xs ys l e = absurd (omega arith)
same_fronts (a ∷ cs) (b ∷ bs) xs ys l e =
    let head : a ≡ b = cc in
    let tail : cs ++ xs ≡ bs ++ ys = cc in
    let rest = same_fronts cs bs xs ys (omega arith) tail in
    let front : cs ≡ bs = rest.0 in
    (cc, rest.1)

-- Unique decoding: if two lists of patterns, each with something behind it, are the same bytes, the shorter list is
-- a front of the longer. By the number of bytes: the first nodes are the same, and what is left is again two lists.
abbrev Longer : List Pattern → List Pattern → List ℕ → List ℕ → Type 0
Longer ps qs x y = (rs : List Pattern) × (qs ≡ ps ++ rs) × (x ≡ write_list rs ++ y)

decoding : (n : ℕ) (ps qs : List Pattern) (x y : List ℕ) → length (write_list ps) ≤ n → length ps ≤ length qs → sound_list ps ≡ true → sound_list qs ≡ true
    → write_list ps ++ x ≡ write_list qs ++ y → Longer ps qs x y
decoding n [] qs x y l k a b e = (qs, refl, e)
decoding n (p ∷ ps) [] x y l k a b e = absurd (omega arith)
decoding zero (p ∷ ps) (q ∷ qs) x y l k a b e = absurd (omega (arith, length-append (write p) (write_list ps), write_long p))
decoding (suc n) (p ∷ ps) (q ∷ qs) x y l k a b e =
    let sp = opened_sound p ps a in
    let sq = opened_sound q qs b in
    let op = opened_written p ps x in
    let oq = opened_written q qs y in
    let same : node_of p ≡ node_of q = one_node (node_of p) (node_of q) (write_list (parts_of p ++ ps) ++ x) (write_list (parts_of q ++ qs) ++ y) sp.0 sq.0 (sym op ∙ e ∙ oq) in
    let arities : length (parts_of p) ≡ length (parts_of q) = parts_many p ∙ ap arity same ∙ sym (parts_many q) in
    let lp = length-append (parts_of p) ps in
    let lq = length-append (parts_of q) qs in
    let rest : write_list (parts_of p ++ ps) ++ x ≡ write_list (parts_of q ++ qs) ++ y =
    append_cancel_left (node_bytes (node_of p)) _ _ (sym op ∙ e ∙ oq ∙ ap (λ m. node_bytes m ++ (write_list (parts_of q ++ qs) ++ y)) (sym same)) in
    let on = decoding n (parts_of p ++ ps) (parts_of q ++ qs) x y (fewer p ps l) (omega arith) sp.1 sq.1 rest in
    let split = same_fronts (parts_of q) (parts_of p) qs (ps ++ on.0) (sym arities) (on.1 ∙ append_assoc (parts_of p) ps on.0) in
    let top : q ≡ p = rebuilt q ∙ ap (λ m. build m (parts_of q)) (sym same) ∙ ap (build (node_of p)) split.0 ∙ sym (rebuilt p) in
    (on.0, ap (λ r. r ∷ qs) top ∙ ap (λ r. p ∷ r) split.1, on.2)
  where
    one_node : (m n : Node) (u v : List ℕ) → node_sound m ≡ true → node_sound n ≡ true → node_bytes m ++ u ≡ node_bytes n ++ v → m ≡ n
    one_node m n u v a b e = let s : Some m ≡ Some n = sym (decode_node m u a) ∙ ap decode e ∙ decode_node n v b in cc

    fewer : (p : Pattern) (ps : List Pattern) → length (write_list (p ∷ ps)) ≤ suc n → length (write_list (parts_of p ++ ps)) ≤ n
    fewer p ps l =
        omega (arith, ap length (append-nil (write_list (p ∷ ps))), ap length (opened_written p ps []), length-append (node_bytes (node_of p)) (write_list (parts_of p ++ ps) ++ []), ap length (append-nil (write_list (parts_of p ++ ps))), node_long (node_of p))

pub prefix_list : (ps qs : List Pattern) (x y : List ℕ) → length ps ≤ length qs → sound_list ps ≡ true → sound_list qs ≡ true → write_list ps ++ x ≡ write_list qs ++ y → Longer ps qs x y
prefix_list ps qs x y k a b e = decoding (length (write_list ps)) ps qs x y (omega arith) k a b e

-- bytes begin with at most one pattern
pub one_pattern : (p q : Pattern) (x y : List ℕ) → sound p ≡ true → sound q ≡ true → write p ++ x ≡ write q ++ y → (p ≡ q) × (x ≡ y)
one_pattern p q x y a b e =
    let r = prefix_list (p ∷ []) (q ∷ []) x y (omega arith) (sym (and_end (sound p)) ∙ a) (sym (and_end (sound q)) ∙ b)
    (ap (λ w. w ++ x) (append-nil (write p)) ∙ e ∙ ap (λ w. w ++ y) (sym (append-nil (write q)))) in
    none r.0 r.1 r.2
  where
    none : (rs : List Pattern) → q ∷ [] ≡ p ∷ rs → x ≡ write_list rs ++ y → (p ≡ q) × (x ≡ y)
    none [] f h = (cc, h)
    none (r ∷ rs) f h = absurd (omega (arith, ap length f))

one_written_list : (ps qs : List Pattern) → length ps ≤ length qs → sound_list ps ≡ true → sound_list qs ≡ true → write_list ps ≡ write_list qs → ps ≡ qs
one_written_list ps qs k a b e =
    let r = prefix_list ps qs [] [] k a b (ap (λ w. w ++ []) e) in
    none r.0 r.1 r.2
  where
    none : (rs : List Pattern) → qs ≡ ps ++ rs → [] ≡ write_list rs ++ [] → ps ≡ qs
    none [] f h = sym (f ∙ append-nil ps)
    none (r ∷ rs) f h = absurd (omega (arith, ap length h, length-append (write_list (r ∷ rs)) [], length-append (write r) (write_list rs), write_long r))

pub one_list : OneList
one_list s ps qs a b = ⊎_elim
    (λ (l : length ps < length qs). one_written_list ps qs (omega arith) a.sounds b.sounds (a.written ∙ sym b.written))
    (λ (l : length qs ≤ length ps). sym (one_written_list qs ps l b.sounds a.sounds (b.written ∙ sym a.written)))
    (cases_lt (length ps) (length qs))
