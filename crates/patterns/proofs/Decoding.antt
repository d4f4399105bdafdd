-- Reading one node, and a pattern as a node with parts. Assumes nothing.
use Rattle.std.proofs.Common.{◌≡◌, ℕ, zero, suc, ◌+◌, ◌<◌, Bool, true, false, cond, ◌&&◌, ltb, leb, List, [], ◌∷◌, ◌++◌, length, drop, Some, None, Option, sym, refl, ap, ◌∙◌, subst, arith}
use Rattle.patterns.specs.declared.node.Node.{Node}
use Rattle.patterns.specs.declared.node.Node.TheVariants.{Nothing, Empty, Range, Sequence, Union, Intersection, Complement, Star}
use Rattle.patterns.specs.Nodes.{node_bytes, node_sound}
use Rattle.patterns.specs.Promises.{NodeAt, NodeRead}
use Rattle.patterns.proofs.Places.{stands_from}

-- the node that bytes begin with
abbrev pub decode_range : List ℕ → Option Node
decode_range [] = None
decode_range (a ∷ []) = None
decode_range (a ∷ b ∷ s) = cond (ltb b 256 && leb a b) (Some (Range a b)) None

abbrev pub decode_kind : ℕ → List ℕ → Option Node
decode_kind zero s = Some Nothing
decode_kind (suc zero) s = Some Empty
decode_kind (suc (suc zero)) s = decode_range s
decode_kind (suc (suc (suc zero))) s = Some Sequence
decode_kind (suc (suc (suc (suc zero)))) s = Some Union
decode_kind (suc (suc (suc (suc (suc zero))))) s = Some Intersection
decode_kind (suc (suc (suc (suc (suc (suc zero)))))) s = Some Complement
decode_kind (suc (suc (suc (suc (suc (suc (suc zero))))))) s = Some Star
decode_kind (suc (suc (suc (suc (suc (suc (suc (suc k)))))))) s = None

abbrev pub decode : List ℕ → Option Node
decode [] = None
decode (k ∷ s) = decode_kind k s

pub node_long : (n : Node) → 0 < length (node_bytes n)
node_long Nothing = omega arith
node_long Empty = omega arith
node_long (Range a b) = omega arith
node_long Sequence = omega arith
node_long Union = omega arith
node_long Intersection = omega arith
node_long Complement = omega arith
node_long Star = omega arith

-- a node that is there is read
pub decode_node : (n : Node) (x : List ℕ) → node_sound n ≡ true → decode (node_bytes n ++ x) ≡ Some n
decode_node Nothing x h = refl
decode_node Empty x h = refl
decode_node (Range a b) x h = ap (λ t. cond t (Some (Range a b)) None) h
decode_node Sequence x h = refl
decode_node Union x h = refl
decode_node Intersection x h = refl
decode_node Complement x h = refl
decode_node Star x h = refl

-- and what is read is there
abbrev pub Begins : List ℕ → Option Node → Type 0
Begins s None = Unit {0}
Begins s (Some n) = (x : List ℕ) × (s ≡ node_bytes n ++ x) × (node_sound n ≡ true)

begins_range : (a b : ℕ) (s : List ℕ) (t : Bool) → (ltb b 256 && leb a b) ≡ t → Begins (2 ∷ a ∷ b ∷ s) (cond t (Some (Range a b)) None)
begins_range a b s true h = (s, refl, h)
begins_range a b s false h = tt

pub decode_begins : (s : List ℕ) → Begins s (decode s)
decode_begins [] = tt
decode_begins (zero ∷ s) = (s, refl, refl)
decode_begins (suc zero ∷ s) = (s, refl, refl)
decode_begins (suc (suc zero) ∷ []) = tt
decode_begins (suc (suc zero) ∷ (a ∷ [])) = tt
decode_begins (suc (suc zero) ∷ (a ∷ b ∷ s)) = begins_range a b s (ltb b 256 && leb a b) refl
decode_begins (suc (suc (suc zero)) ∷ s) = (s, refl, refl)
decode_begins (suc (suc (suc (suc zero))) ∷ s) = (s, refl, refl)
decode_begins (suc (suc (suc (suc (suc zero)))) ∷ s) = (s, refl, refl)
decode_begins (suc (suc (suc (suc (suc (suc zero))))) ∷ s) = (s, refl, refl)
decode_begins (suc (suc (suc (suc (suc (suc (suc zero)))))) ∷ s) = (s, refl, refl)
decode_begins (suc (suc (suc (suc (suc (suc (suc (suc k))))))) ∷ s) = tt

pub node_decode : {s : List ℕ} {at : ℕ} {n : Node} → NodeAt s at n → decode (drop at s) ≡ Some n
node_decode {s = s} {at = at} {n = n} h = ap decode h.stands.is ∙ decode_node n (drop (at + length (node_bytes n)) s) h.sounds

-- the answer of a reader that answers as `decode` does
pub node_read : (s : List ℕ) (at : ℕ) (r : Option Node) → decode (drop at s) ≡ r → NodeRead s at r
node_read s at None e = λ n h. let same : ◌≡◌ {A = Option Node} (Some n) None = sym (node_decode h) ∙ e in let z : ◌≡◌ {A = ℕ} 0 1 = cc in omega arith
node_read s at (Some n) e =
    let b : Begins (drop at s) (Some n) = subst (Begins (drop at s)) e (decode_begins (drop at s)) in
    record { stands = stands_from s at (node_bytes n) b.0 (node_long n) b.1; sounds = b.2 }
