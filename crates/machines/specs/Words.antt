-- Words over bytes, and their shortlex order. Assumes nothing.
--   Word          a list of numbers
--   Bytes w       each number of w is a byte
--   joined ws     the words of ws, one after the other
--   Less u v      u comes before v: it is shorter, or as long and smaller where they first differ
--   StrictTotal   the laws of a strict total order, of Less
use Rattle.std.specs.Prelude.{◌≡◌, ℕ, ◌<◌, ◌⊎◌, List, [], ◌∷◌, ◌++◌, length}

abbrev pub Word : Type 0
Word = List ℕ

abbrev pub Bytes : Word → Type 0
Bytes [] = Unit {0}
Bytes (x ∷ xs) = (x < 256) × Bytes xs

abbrev pub joined : List Word → Word
joined [] = []
joined (w ∷ ws) = w ++ joined ws

pub data Less : Word → Word → Type 0 where
  at_once : {x y : ℕ} {u v : Word} → x < y → length u ≡ length v → Less (x ∷ u) (y ∷ v)
  later : {x : ℕ} {u v : Word} → Less u v → length u ≡ length v → Less (x ∷ u) (x ∷ v)
  shorter : {u v : Word} → length u < length v → Less u v

pub record StrictTotal : Type 0 where
  pub irreflexive : (u : Word) → Less u u → ⊥
  pub transitive : (u v w : Word) → Less u v → Less v w → Less u w
  pub total : (u v : Word) → Less u v ⊎ ((u ≡ v) ⊎ Less v u)
