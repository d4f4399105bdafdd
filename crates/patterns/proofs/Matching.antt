-- Deciding by definition, node by node: what the answers for the parts say of the whole. Assumes nothing.
use Rattle.std.proofs.Common.{◌≡◌, ℕ, ◌+◌, ◌-◌, ◌<◌, Bool, true, false, ◌&&◌, ◌||◌, eqb, List, [], ◌∷◌, length, take, drop, sym, refl, ap, ◌∙◌, subst, arith}
use Rattle.std.proofs.lemmas.List.{take_rest}
use Rattle.std.proofs.lemmas.Bool.{and_from, and_left, and_right, ne_eqb}
use Rattle.machines.specs.Words.{Word}
use Rattle.patterns.specs.declared.node.Node.{Node}
use Rattle.patterns.specs.Patterns.{Pattern, null, matches}
use Rattle.patterns.specs.Nodes.{node_bytes, arity}
use Rattle.patterns.specs.Promises.{NodeAt, PatternAt, SomePattern, MatchesAt}
use Rattle.patterns.proofs.Trees.{parts_of, build, parts_many, built_as}
use Rattle.patterns.proofs.Extents.{NodeTo, node_to, PartsAt, parts_first, pattern_opened, pattern_later}
use Rattle.patterns.proofs.Cutting.{Here}

-- the node that was read, once its kind is known
pub node_kind : {s : List ℕ} {at : ℕ} {n m : Node} (width : ℕ) → NodeAt s at n → width ≡ length (node_bytes n) → n ≡ m → NodeTo s at m (at + width)
node_kind {s = s} {at = at} width r e k = subst (λ (x : Node). NodeTo s at x (at + width)) k (node_to width r e)

module _ {s : List ℕ} {at : ℕ} {m : Node} {next : ℕ} (r : NodeTo s at m next) where
  -- a pattern that stands here is built from as many parts as the node takes
  taken_apart : {p : Pattern} {stop : ℕ} → PatternAt s at p stop → (ps : List Pattern) × (p ≡ build m ps) × (length ps ≡ arity m) × PartsAt s next ps stop
  taken_apart {p = p} h = let o = pattern_opened r h in (parts_of p, built_as p m o.node, parts_many p ∙ ap arity o.node, o.parts)

  pub matches_leaf : (w : Word) (x : Bool) → ((ps : List Pattern) → x ≡ matches (build m ps) w) → MatchesAt s at w x
  matches_leaf w x f p stop h = let a = taken_apart h in f a.0 ∙ sym (ap (λ q. matches q w) a.1)

  pub matches_one : (w : Word) (x : Bool) → arity m ≡ 1 → ((a : Pattern) (stop : ℕ) → PatternAt s next a stop → x ≡ matches (build m (a ∷ [])) w) → MatchesAt s at w x
  matches_one w x one f p stop h = let a = taken_apart h in go a.0 a.1 (a.2 ∙ one) a.3
    where
      go : (ps : List Pattern) → p ≡ build m ps → length ps ≡ 1 → PartsAt s next ps stop → x ≡ matches p w
      go [] e l k = absurd (omega arith)
      go (a ∷ []) e l k = let i = parts_first k in f a i.mid i.first ∙ sym (ap (λ q. matches q w) e)
      go (a ∷ b ∷ ps) e l k = absurd (omega arith)

  pub matches_two : (w : Word) (x : Bool) → arity m ≡ 2 → ((a b : Pattern) (mid stop : ℕ) → PatternAt s next a mid → PatternAt s mid b stop → x ≡ matches (build m (a ∷ b ∷ [])) w) → MatchesAt s at w x
  matches_two w x two f p stop h = let a = taken_apart h in go a.0 a.1 (a.2 ∙ two) a.3
    where
      go : (ps : List Pattern) → p ≡ build m ps → length ps ≡ 2 → PartsAt s next ps stop → x ≡ matches p w
      go [] e l k = absurd (omega arith)
      go (a ∷ []) e l k = absurd (omega arith)
      go (a ∷ b ∷ []) e l k = let i = parts_first k in let j = parts_first i.others in f a b i.mid j.mid i.first j.first ∙ sym (ap (λ q. matches q w) e)
      go (a ∷ b ∷ c ∷ ps) e l k = absurd (omega arith)

  -- its parts are there
  pub some_first : SomePattern s at → 0 < arity m → SomePattern s next
  some_first h pos = let a = taken_apart h.here in go a.0 a.2 a.3
    where
      go : {stop : ℕ} (ps : List Pattern) → length ps ≡ arity m → PartsAt s next ps stop → SomePattern s next
      go [] l k = absurd (omega arith)
      go (a ∷ ps) l k = let i = parts_first k in record { pattern = a; stop = i.mid; here = i.first }

  pub some_second : (mid : ℕ) → SomePattern s at → arity m ≡ 2 → ((p : Pattern) (stop : ℕ) → PatternAt s next p stop → mid ≡ stop) → SomePattern s mid × (next < mid)
  some_second mid h two ends = let a = taken_apart h.here in go a.0 (a.2 ∙ two) a.3
    where
      go : {stop : ℕ} (ps : List Pattern) → length ps ≡ 2 → PartsAt s next ps stop → SomePattern s mid × (next < mid)
      go [] l k = absurd (omega arith)
      go (a ∷ []) l k = absurd (omega arith)
      go (a ∷ b ∷ ps) l k =
          let i = parts_first k in
          let j = parts_first i.others in
          let e = ends a i.mid i.first in
          (subst (λ (x : ℕ). SomePattern s x) (sym e) (record { pattern = b; stop = j.mid; here = j.first }), omega (arith, pattern_later i.first))

-- the tests that the code makes
pub null_length : (w : Word) → eqb (length w) 0 ≡ null w
null_length [] = refl
null_length (x ∷ w) = ne_eqb (length (x ∷ w)) 0 (λ e. omega arith)

pub or_second : (x y z : Bool) → x ≡ false → z ≡ y → z ≡ (x || y)
or_second true y z h e = absurd (let c : ◌≡◌ {A = ℕ} 0 1 = cc in omega arith)
or_second false y z h e = e

pub and_second : (x y z : Bool) → x ≡ true → z ≡ y → z ≡ (x && y)
and_second true y z h e = e
and_second false y z h e = absurd (let c : ◌≡◌ {A = ℕ} 0 1 = cc in omega arith)

-- a word cut at k, as the code hands out its front and its rest: both serve, or one doesn't
front_is : (f : Word → Bool) (w : Word) (k : ℕ) (x : Bool) → x ≡ f (take (k - 0) w) → f (take k w) ≡ x
front_is f w k x a = let e : k ≡ k - 0 = omega arith in ap (λ n. f (take n w)) e ∙ sym a

rest_is : (g : Word → Bool) (w : Word) (k : ℕ) (y : Bool) → y ≡ g (take (length w - k) (drop k w)) → g (drop k w) ≡ y
rest_is g w k y b = ap g (sym (take_rest w k)) ∙ sym b

module _ (f g : Word → Bool) (w : Word) (k : ℕ) where
  pub cut_serves : (x y : Bool) → x ≡ f (take (k - 0) w) → y ≡ g (take (length w - k) (drop k w)) → x ≡ true → y ≡ true → Here f g w k ≡ true
  cut_serves x y a b c d = and_from _ _ (front_is f w k x a ∙ c) (rest_is g w k y b ∙ d)

  pub front_fails : (x : Bool) → x ≡ f (take (k - 0) w) → x ≡ false → Here f g w k ≡ false
  front_fails x a c = and_left _ _ (front_is f w k x a ∙ c)

  pub rest_fails : (y : Bool) → y ≡ g (take (length w - k) (drop k w)) → y ≡ false → Here f g w k ≡ false
  rest_fails y b d = and_right _ _ (rest_is g w k y b ∙ d)
