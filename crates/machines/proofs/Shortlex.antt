-- Shortlex is a strict total order, and how a comparison of two words goes on byte by byte. Assumes nothing.
use Rattle.std.proofs.Common.{◌≡◌, ℕ, suc, ◌+◌, ◌<◌, ◌≤◌, ◌⊎◌, [], ◌∷◌, length, get_or, drop, sym, refl, ap, ◌∙◌, inl, inr, ⊎_elim, arith}
use Rattle.std.proofs.lemmas.List.{drop_more, length-drop}
use Rattle.std.proofs.lemmas.Bool.{cases_order}
use Rattle.machines.specs.Words.{Word, Less, at_once, later, shorter, StrictTotal}

-- the order as a type that computes: among equally long words the first byte that differs decides
abbrev pub Lex : Word → Word → Type 0
Lex [] v = ⊥
Lex (x ∷ u) [] = ⊥
Lex (x ∷ u) (y ∷ v) = (x < y) ⊎ ((x ≡ y) × Lex u v)

abbrev pub Before : Word → Word → Type 0
Before u v = (length u < length v) ⊎ ((length u ≡ length v) × Lex u v)

pub less_before : {u v : Word} → Less u v → Before u v
less_before (at_once l e) = inr (ap suc e, inl l)
less_before (later {u} {v} l e) = ⊎_elim (λ s. absurd (omega arith)) (λ b. inr (ap suc e, inr (refl, b.1))) (less_before l)
less_before (shorter s) = inl s

lex_less : (u v : Word) → length u ≡ length v → Lex u v → Less u v
lex_less [] v e b = absurd b
lex_less (x ∷ u) [] e b = absurd b
lex_less (x ∷ u) (y ∷ v) e (inl l) = at_once l (omega arith)
lex_less (x ∷ u) (y ∷ v) e (inr (s, b)) = rw s (later (lex_less u v (omega arith) b) (omega arith))

pub before_less : (u v : Word) → Before u v → Less u v
before_less u v (inl s) = shorter s
before_less u v (inr (e, b)) = lex_less u v e b

lex_irreflexive : (u : Word) → Lex u u → ⊥
lex_irreflexive [] b = b
lex_irreflexive (x ∷ u) (inl l) = omega arith
lex_irreflexive (x ∷ u) (inr (e, b)) = lex_irreflexive u b

pub less_irreflexive : (u : Word) → Less u u → ⊥
less_irreflexive u l = ⊎_elim (λ s. omega arith) (λ b. lex_irreflexive u b.1) (less_before l)

lex_transitive : (u v w : Word) → Lex u v → Lex v w → Lex u w
lex_transitive [] v w a b = a
lex_transitive (x ∷ u) [] w a b = absurd a
lex_transitive (x ∷ u) (y ∷ v) [] a b = absurd b
lex_transitive (x ∷ u) (y ∷ v) (z ∷ w) (inl a) (inl b) = inl (omega arith)
lex_transitive (x ∷ u) (y ∷ v) (z ∷ w) (inl a) (inr (e, b)) = inl (omega arith)
lex_transitive (x ∷ u) (y ∷ v) (z ∷ w) (inr (e, a)) (inl b) = inl (omega arith)
lex_transitive (x ∷ u) (y ∷ v) (z ∷ w) (inr (e, a)) (inr (d, b)) = inr (e ∙ d, lex_transitive u v w a b)

pub less_transitive : (u v w : Word) → Less u v → Less v w → Less u w
less_transitive u v w a b = before_less u w (go (less_before a) (less_before b))
  where
    go : Before u v → Before v w → Before u w
    go (inl s) (inl t) = inl (omega arith)
    go (inl s) (inr (e, y)) = inl (omega arith)
    go (inr (e, y)) (inl t) = inl (omega arith)
    go (inr (e, y)) (inr (d, z)) = inr (e ∙ d, lex_transitive u v w y z)

lex_total : (u v : Word) → length u ≡ length v → Lex u v ⊎ ((u ≡ v) ⊎ Lex v u)
lex_total [] [] e = inr (inl refl)
lex_total [] (y ∷ v) e = absurd (omega arith)
lex_total (x ∷ u) [] e = absurd (omega arith)
lex_total (x ∷ u) (y ∷ v) e = go (cases_order x y) (lex_total u v (omega arith))
  where
    go : (x ≡ y) ⊎ ((x < y) ⊎ (y < x)) → Lex u v ⊎ ((u ≡ v) ⊎ Lex v u) → Lex (x ∷ u) (y ∷ v) ⊎ ((x ∷ u ≡ y ∷ v) ⊎ Lex (y ∷ v) (x ∷ u))
    go (inl s) (inl a) = inl (inr (s, a))
    go (inl s) (inr (inl d)) = inr (inl (cc))
    go (inl s) (inr (inr b)) = inr (inr (inr (sym s, b)))
    go (inr (inl l)) r = inl (inl l)
    go (inr (inr l)) r = inr (inr (inl l))

pub less_total : (u v : Word) → Less u v ⊎ ((u ≡ v) ⊎ Less v u)
less_total u v = go (cases_order (length u) (length v))
  where
    go : (length u ≡ length v) ⊎ ((length u < length v) ⊎ (length v < length u)) → Less u v ⊎ ((u ≡ v) ⊎ Less v u)
    go (inl e) = ⊎_elim (λ a. inl (lex_less u v e a)) (λ r. inr (⊎_elim (λ s. inl s) (λ b. inr (lex_less v u (sym e) b)) r)) (lex_total u v e)
    go (inr (inl s)) = inl (shorter s)
    go (inr (inr s)) = inr (inr (shorter s))

pub strict_total : StrictTotal
strict_total = record { irreflexive = less_irreflexive; transitive = less_transitive; total = less_total }

-- Two equally long words agree before place i: what is left of them decides.
pub record Level (u v : Word) (i : ℕ) : Type 0 where
  pub long : length u ≡ length v
  pub within : i ≤ length u
  pub same : drop i u ≡ drop i v → u ≡ v
  pub below : Less (drop i u) (drop i v) → Less u v
  pub above : Less (drop i v) (drop i u) → Less v u

-- what is left of a word at a place within it
left_at : (u : Word) (i : ℕ) → i < length u → drop i u ≡ get_or u i 0 ∷ drop (i + 1) u
left_at u i h = drop_more u i 0 h

left_long : (u v : Word) (i : ℕ) → length u ≡ length v → length (drop i u) ≡ length (drop i v)
left_long u v i e = simp length-drop (omega arith)

module _ {u v : Word} {i : ℕ} (level : Level u v i) (h : i < length u) where
  there : i < length v
  there = omega (arith, level.long)

  pub level_more : get_or u i 0 ≡ get_or v i 0 → Level u v (i + 1)
  level_more e = record {
    long = level.long;
    within = omega arith;
    same = λ s. level.same (left_at u i h ∙ ap (λ x. x ∷ drop (i + 1) u) e ∙ ap (λ t. get_or v i 0 ∷ t) s ∙ sym (left_at v i there));
    below = λ l. level.below (rw (left_at u i h, left_at v i there, e) (later l (left_long u v (i + 1) level.long)));
    above = λ l. level.above (rw (left_at u i h, left_at v i there, e) (later l (left_long v u (i + 1) (sym level.long))));
  }

  pub level_below : get_or u i 0 < get_or v i 0 → Less u v
  level_below l = level.below (rw (left_at u i h, left_at v i there) (at_once l (left_long u v (i + 1) level.long)))

  pub level_above : get_or v i 0 < get_or u i 0 → Less v u
  level_above l = level.above (rw (left_at u i h, left_at v i there) (at_once l (left_long v u (i + 1) (sym level.long))))
