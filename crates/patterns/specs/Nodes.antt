-- One node of a pattern, as it is read from a list's bytes. Assumes nothing.
--   node_bytes n    the bytes of a node, without those of its parts
--   node_sound n    a range goes from a byte to one that isn't smaller
--   arity n         how many patterns follow as its parts
use Rattle.std.specs.Prelude.{ℕ, Bool, true, ◌&&◌, List, [], ◌∷◌, nat_le, nat_lt}
use Rattle.patterns.specs.declared.node.Node.{Node}
use Rattle.patterns.specs.declared.node.Node.TheVariants.{Nothing, Empty, Range, Sequence, Union, Intersection, Complement, Star}

abbrev pub node_bytes : Node → List ℕ
node_bytes Nothing = 0 ∷ []
node_bytes Empty = 1 ∷ []
node_bytes (Range a b) = 2 ∷ a ∷ b ∷ []
node_bytes Sequence = 3 ∷ []
node_bytes Union = 4 ∷ []
node_bytes Intersection = 5 ∷ []
node_bytes Complement = 6 ∷ []
node_bytes Star = 7 ∷ []

abbrev pub node_sound : Node → Bool
node_sound Nothing = true
node_sound Empty = true
node_sound (Range a b) = nat_lt b 256 && nat_le a b
node_sound Sequence = true
node_sound Union = true
node_sound Intersection = true
node_sound Complement = true
node_sound Star = true

abbrev pub arity : Node → ℕ
arity Nothing = 0
arity Empty = 0
arity (Range a b) = 0
arity Sequence = 2
arity Union = 2
arity Intersection = 2
arity Complement = 1
arity Star = 1
