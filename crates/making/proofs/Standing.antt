-- Parts of a pattern where they stand: in which order they come, what room they have, and what is known of the whole. Assumes nothing.
--   Turns s next one other k room    two parts, worked out one after the other, each with the room that it needs
use Rattle.std.proofs.Common.{◌≡◌, ℕ, ◌+◌, ◌-◌, ◌*◌, ◌<◌, ◌≤◌, Bool, true, false, cond, ltb, List, [], ◌∷◌, length, get_or, Some, None, Option, sym, refl, ap, ◌∙◌, subst, arith}
use Rattle.std.proofs.lemmas.Nat.{mul-le}
use Rattle.std.proofs.lemmas.Bool.{ltb-true, ltb-false}
use borrow.Rule.Slice.PartMut.{put_mid}
use Rattle.machines.specs.Columns.{Columns}
use Rattle.patterns.specs.declared.node.Node.{Node}
use Rattle.patterns.specs.declared.node.Node.TheVariants.{Nothing, Empty, Range, Sequence, Union, Intersection, Complement, Star}
use Rattle.patterns.specs.Patterns.{Pattern, compl}
use Rattle.patterns.specs.Nodes.{arity}
use Rattle.patterns.specs.Promises.{PatternAt}
use Rattle.patterns.specs.Sizes.{Top, Fits}
use Rattle.patterns.proofs.Trees.{build}
use Rattle.patterns.proofs.Extents.{NodeTo, by_one, by_two, pattern_later}
use Rattle.plans.specs.Strahler.{higher, strahler, Measured}
use Rattle.plans.proofs.Strahler.{higher_left, higher_right, higher_first, higher_second, strahler_some}
use Rattle.parts.specs.declared.part.Part.{Part}
use Rattle.parts.specs.Combining.{Combines, Complemented}
use Rattle.parts.specs.Steps.{StepSays}
use Rattle.exploration.specs.declared.pairs.Connective.TheVariants.{Or, And}
use Rattle.making.specs.declared.binary.Binary.{Binary}
use Rattle.making.specs.declared.binary.Binary.TheVariants.{Followed, Connected}
use Rattle.making.specs.declared.order.Order.{Order}
use Rattle.making.specs.declared.order.Order.TheVariants.{Written, Turned}
use Rattle.making.specs.Orders.{order_of, arranged}
use Rattle.making.specs.Working.{over, Workable, WorkableTwo, Done, DoneSays, WorkedSays, TwoSays, Sides, Ordered}
use Rattle.making.proofs.Stacks.{DonePart, kept_part, written_part}

-- the node that stands for such a kind
abbrev pub node_of : Binary → Node
node_of Followed = Sequence
node_of (Connected Or) = Union
node_of (Connected And) = Intersection

pub two_kind : (m : Binary) → arity (node_of m) ≡ 2
two_kind Followed = refl
two_kind (Connected Or) = refl
two_kind (Connected And) = refl

over_built : (m : Binary) (a b : Pattern) → over m a b ≡ build (node_of m) (a ∷ b ∷ [])
over_built Followed a b = refl
over_built (Connected Or) a b = refl
over_built (Connected And) a b = refl

-- a node over its parts
strahler_one : (m : Node) (a : Pattern) → arity m ≡ 1 → strahler (build m (a ∷ [])) ≡ strahler a
strahler_one Nothing a e = absurd (omega arith)
strahler_one Empty a e = absurd (omega arith)
strahler_one (Range x y) a e = absurd (omega arith)
strahler_one Sequence a e = absurd (omega arith)
strahler_one Union a e = absurd (omega arith)
strahler_one Intersection a e = absurd (omega arith)
strahler_one Complement a e = refl
strahler_one Star a e = refl

strahler_two : (m : Binary) (a b : Pattern) → strahler (build (node_of m) (a ∷ b ∷ [])) ≡ higher (strahler a) (strahler b)
strahler_two Followed a b = refl
strahler_two (Connected Or) a b = refl
strahler_two (Connected And) a b = refl

-- it fits where its parts do and the step over them does
fits_over : (m : Binary) (n : ℕ) (a b : Pattern) → Fits n a → Fits n b → Top n (over m a b) → Fits n (over m a b)
fits_over Followed n a b f g t = (f, g, t)
fits_over (Connected Or) n a b f g t = (f, g, t)
fits_over (Connected And) n a b f g t = (f, g, t)

fits_parts : (m : Binary) (n : ℕ) (a b : Pattern) → Fits n (over m a b) → Fits n a × Fits n b × Top n (over m a b)
fits_parts Followed n a b f = f
fits_parts (Connected Or) n a b f = f
fits_parts (Connected And) n a b f = f

-- what the step over two finished parts gives
pub combined : (column : ℕ → ℕ) (c : ℕ) (a b : Part) (n : ℕ) (t u : List ℕ) (p q : Pattern) (m : Binary) (r : Option ℕ)
    → Combines (over m) column c a b n t u r → DonePart column c p n a t × DonePart column c q n b t → DoneSays column c (over m p q) n u r
combined column c a b n t u p q m None C (D, E) = λ f. C p q D.finished E.finished (fits_parts m n p q f).2
combined column c a b n t u p q m (Some k) C (D, E) = let S = C p q D.finished E.finished in
    record { fits = fits_over m n p q D.fits E.fits S.top; few = S.few; inside = S.inside; finished = S.finished }

-- of parts in an order, what is known of each where it stands
both_sides : {s : List ℕ} {next mid stop one other : ℕ} {p q : Pattern} {X : Type 0} (R : X → Pattern → Type 0) (order : Order) (x y : X)
    → Sides order next mid one other p q → PatternAt s next p mid → PatternAt s mid q stop
    → ((a : Pattern) (end : ℕ) → PatternAt s one a end → R x a) → ((a : Pattern) (end : ℕ) → PatternAt s other a end → R y a)
    → R (arranged order x y).0 p × R (arranged order x y).1 q
both_sides {s} {mid = mid} {stop = stop} {p = p} {q = q} R Written x y S h g f k =
    (f p mid (subst (λ (i : ℕ). PatternAt s i p mid) (sym S.0) h), k q stop (subst (λ (i : ℕ). PatternAt s i q stop) (sym S.1) g))
both_sides {s} {mid = mid} {stop = stop} {p = p} {q = q} R Turned x y S h g f k =
    (k p mid (subst (λ (i : ℕ). PatternAt s i p mid) (sym S.1) h), f q stop (subst (λ (i : ℕ). PatternAt s i q stop) (sym S.0) g))

-- the order that the numbers of tables say
pub ordered : {s ends tables : List ℕ} {next : ℕ} → Measured s ends tables 0 → (order : Order) (pair : ℕ × ℕ)
    → order ≡ order_of (get_or tables next 0) (get_or tables (get_or ends next 0) 0) → pair ≡ arranged order next (get_or ends next 0)
    → Ordered s next pair.0 pair.1 order
ordered {s} {ends} {tables} {next} M order pair o e p q mid stop h g = subst (λ (x : ℕ × ℕ). Sides order next mid x.0 x.1 p q) (sym e) (go order o)
  where
    there : get_or ends next 0 ≡ mid
    there = M.stops next (omega arith) p mid h

    first : get_or tables next 0 ≡ strahler p
    first = M.needs next (omega arith) p mid h

    second : get_or tables (get_or ends next 0) 0 ≡ strahler q
    second = ap (λ (i : ℕ). get_or tables i 0) there ∙ M.needs mid (omega arith) q stop g

    by_needs : (b : Bool) → ltb (get_or tables next 0) (get_or tables (get_or ends next 0) 0) ≡ b
        → Sides (cond b Turned Written) next mid (arranged (cond b Turned Written) next (get_or ends next 0)).0 (arranged (cond b Turned Written) next (get_or ends next 0)).1 p q
    by_needs false l = (refl, there, omega (arith, first, second, ltb-false (get_or tables next 0) (get_or tables (get_or ends next 0) 0) l))
    by_needs true l = (there, refl, omega (arith, first, second, ltb-true (get_or tables next 0) (get_or tables (get_or ends next 0) 0) l))

    go : (order : Order) → order ≡ order_of (get_or tables next 0) (get_or tables (get_or ends next 0) 0)
        → Sides order next mid (arranged order next (get_or ends next 0)).0 (arranged order next (get_or ends next 0)).1 p q
    go order o =
        subst (λ (x : Order). Sides x next mid (arranged x next (get_or ends next 0)).0 (arranged x next (get_or ends next 0)).1 p q) (sym o)
        (by_needs (ltb (get_or tables next 0) (get_or tables (get_or ends next 0) 0)) refl)

-- what two parts are lent: the second the words behind the first one's table
lent : (k room x y : ℕ) (h : ℕ) → h * k ≤ room → x ≤ h → y + 1 ≤ h → 1 ≤ y → (x * k ≤ room) × (y * k ≤ room - k) × (k + k ≤ room)
lent k room x y h l a b c = (
  omega (arith, mul-le x k h k a (omega arith)),
  omega (arith, mul-le (y + 1) k h k b (omega arith)),
  omega (arith, mul-le 2 k h k (omega arith) (omega arith)),
)

pub record Turns (s : List ℕ) (next one other k room : ℕ) : Type 0 where
  pub first : Workable s one k room
  pub second : Workable s other k (room - k)
  pub first_on : next ≤ one
  pub second_on : next ≤ other
  pub kept : k + k ≤ room

pub turns : {s : List ℕ} {next k room one other : ℕ} (order : Order) → WorkableTwo s next k room → Ordered s next one other order → Turns s next one other k room
turns {s} {next = next} {k = k} {room = room} order W O = go order (O W.left W.right W.mid W.stop W.first W.second)
  where
    go : {one other : ℕ} (order : Order) → Sides order next W.mid one other W.left W.right → Turns s next one other k room
    go Written S =
        let a = strahler W.left in
        let b = strahler W.right in
        let l = lent k room a b (higher a b) W.tables (higher_left a b) (higher_first a b S.2) (strahler_some W.right) in
        record {
          first = record { pattern = W.left; stop = W.mid; here = subst (λ (i : ℕ). PatternAt s i W.left W.mid) (sym S.0) W.first; tables = l.0 };
          second = record { pattern = W.right; stop = W.stop; here = subst (λ (i : ℕ). PatternAt s i W.right W.stop) (sym S.1) W.second; tables = l.1 };
          first_on = omega (arith, S.0);
          second_on = omega (arith, S.1, pattern_later W.first);
          kept = l.2;
        }
    go Turned S =
        let a = strahler W.left in
        let b = strahler W.right in
        let l = lent k room b a (higher a b) W.tables (higher_right a b) (higher_second a b S.2) (strahler_some W.left) in
        record {
          first = record { pattern = W.right; stop = W.stop; here = subst (λ (i : ℕ). PatternAt s i W.right W.stop) (sym S.0) W.second; tables = l.0 };
          second = record { pattern = W.left; stop = W.mid; here = subst (λ (i : ℕ). PatternAt s i W.left W.mid) (sym S.1) W.first; tables = l.1 };
          first_on = omega (arith, S.0, pattern_later W.first);
          second_on = omega (arith, S.1);
          kept = l.2;
        }

-- where the second part stands
pub second_place : {s ends tables : List ℕ} {next k room : ℕ} → Measured s ends tables 0 → WorkableTwo s next k room → (next < length s) × (get_or ends next 0 < length s)
second_place {next = next} M W = omega (arith, M.stops next (omega arith) W.left W.mid W.first, pattern_later W.first, pattern_later W.second)

pub one_workable : {s : List ℕ} {at : ℕ} {m : Node} {next k room : ℕ} → NodeTo s at m next → arity m ≡ 1 → Workable s at k room → Workable s next k room
one_workable {s} {m = m} {next} {k} {room} r e W =
    by_one r (λ p. strahler p * k ≤ room → Workable s next k room) e
    (λ a stop h l. record { pattern = a; stop = stop; here = h; tables = subst (λ (n : ℕ). n * k ≤ room) (strahler_one m a e) l })
    W.pattern W.stop W.here W.tables

module _ {s : List ℕ} {at next : ℕ} (m : Binary) (r : NodeTo s at (node_of m) next) where
  pub two_workable : {k room : ℕ} → Workable s at k room → WorkableTwo s next k room
  two_workable {k} {room} W =
      by_two r (λ p. strahler p * k ≤ room → WorkableTwo s next k room) (two_kind m)
      (λ a b mid stop h g l. record { left = a; right = b; mid = mid; stop = stop; first = h; second = g; tables = subst (λ (n : ℕ). n * k ≤ room) (strahler_two m a b) l })
      W.pattern W.stop W.here W.tables

  pub two_worked : (column : ℕ → ℕ) (c n : ℕ) (t : List ℕ) (x : Option ℕ) → TwoSays column c s m next n t x → WorkedSays column c s at n t x
  two_worked column c n t x T =
      by_two r (λ p. DoneSays column c p n t x) (two_kind m) (λ a b mid stop h g. subst (λ p. DoneSays column c p n t x) (over_built m a b) (T a b mid stop h g))

-- what fits where the step over it says so
pub says_done : (column : ℕ → ℕ) (c n : ℕ) (t : List ℕ) (p : Pattern) (x : Option ℕ) → (Fits n p → Top n p) → (Top n p → Fits n p) → StepSays column c p n t x → DoneSays column c p n t x
says_done column c n t p None f g S = λ h. S (f h)
says_done column c n t p (Some k) f g S = record { fits = g S.top; few = S.few; inside = S.inside; finished = S.finished }

-- a part that doesn't fit is handed on as it is
pub refused : (column : ℕ → ℕ) (c : ℕ) {n : ℕ} {s : List ℕ} {at : ℕ} (t : List ℕ) {x : Option ℕ} → x ≡ None → ((p : Pattern) (stop : ℕ) → PatternAt s at p stop → Fits n p → ⊥) → WorkedSays column c s at n t x
refused column c {n} t e none p stop h = subst (DoneSays column c p n t) (sym e) (none p stop h)

-- both are finished, each where it stands on the stack
abbrev pub part_at : ℕ → ℕ → Part
part_at at rows = record { at = at; rows = rows }

pub two_done : {s : List ℕ} {next one other : ℕ} {least : ℕ → ℕ} (column : ℕ → ℕ) (c n a b : ℕ) (t u : List ℕ) (order : Order) (parts : Part × Part)
    → Columns c column least → 257 * n ≤ length t → Ordered s next one other order → parts ≡ arranged order (part_at 0 a) (part_at (257 * n) b)
    → ((r : Pattern) (end : ℕ) → PatternAt s one r end → Done column c r n a t) → ((r : Pattern) (end : ℕ) → PatternAt s other r end → Done column c r n b u)
    → (p q : Pattern) (mid stop : ℕ) → PatternAt s next p mid → PatternAt s mid q stop
    → DonePart column c p n parts.0 (put_mid (257 * n) (length t - 257 * n) t u) × DonePart column c q n parts.1 (put_mid (257 * n) (length t - 257 * n) t u)
two_done column c n a b t u order parts C room O e f k p q mid stop h g =
    let v = put_mid (257 * n) (length t - 257 * n) t u in
    let narrow : (x : ℕ) → x < 256 → column x < 256 = λ x l. let h = C.within x l in omega (arith, C.few) in
    let both = both_sides (λ x r. DonePart column c r n x v) order (part_at 0 a) (part_at (257 * n) b) (O p q mid stop h g) h g
    (λ r end i. kept_part (257 * n) t u narrow (omega arith) room (f r end i))
    (λ r end i. written_part (257 * n) t u room (k r end i)) in
    subst (λ x. DonePart column c p n x.0 v × DonePart column c q n x.1 v) (sym e) both

-- a finished table whose outputs were turned
pub turned_done : {column least : ℕ → ℕ} {c n k : ℕ} {t u : List ℕ} {p : Pattern} → Columns c column least → Done column c p n k t → Complemented k t u → Done column c (compl p) n k u
turned_done {column} {c = c} {p = p} C D K = record {
  fits = D.fits;
  few = D.few;
  inside = K.inside c D.inside;
  finished = K.finished column (λ b l. let h = C.within b l in omega (arith, C.few)) p D.finished;
}
