-- Patterns, and which words they match. Assumes nothing.
--   nothing, empty    no word; the empty word alone
--   range a b         one byte from a to b
--   seq p q           p, then q
--   union, inter      p or q; p and q, of the same word
--   compl p           not p: every word that p doesn't match, the empty one included
--   star p            many p: any number of parts, none included, each matched by p
use Rattle.std.specs.Prelude.{ℕ, zero, suc, Bool, true, false, not, ◌&&◌, ◌||◌, [], ◌∷◌, length, take, drop, nat_le}
use Rattle.machines.specs.Words.{Word}

pub data Pattern : Type 0 where
  nothing : Pattern
  empty : Pattern
  range : ℕ → ℕ → Pattern
  seq : Pattern → Pattern → Pattern
  union : Pattern → Pattern → Pattern
  inter : Pattern → Pattern → Pattern
  compl : Pattern → Pattern
  star : Pattern → Pattern

abbrev pub null : Word → Bool
null [] = true
null (x ∷ xs) = false

abbrev pub single : ℕ → ℕ → Word → Bool
single a b [] = false
single a b (x ∷ []) = nat_le a x && nat_le x b
single a b (x ∷ (y ∷ xs)) = false

-- the word can be cut into a front of at most n bytes in f and the rest in g
abbrev pub cut : (Word → Bool) → (Word → Bool) → ℕ → Word → Bool
cut f g zero w = f [] && g w
cut f g (suc n) w = (f (take (suc n) w) && g (drop (suc n) w)) || cut f g n w

-- the same with a front that isn't empty, so that a repetition gets on
abbrev pub cut_on : (Word → Bool) → (Word → Bool) → ℕ → Word → Bool
cut_on f g zero w = false
cut_on f g (suc n) w = (f (take (suc n) w) && g (drop (suc n) w)) || cut_on f g n w

-- the word is made of at most d parts in f; a word of d bytes has no more than d that aren't empty
abbrev pub many : (Word → Bool) → ℕ → Word → Bool
many f zero w = null w
many f (suc d) w = null w || cut_on f (many f d) (length w) w

abbrev pub matches : Pattern → Word → Bool
matches nothing w = false
matches empty w = null w
matches (range a b) w = single a b w
matches (seq p q) w = cut (matches p) (matches q) (length w) w
matches (union p q) w = matches p w || matches q w
matches (inter p q) w = matches p w && matches q w
matches (compl p) w = not (matches p w)
matches (star p) w = many (matches p) (length w) w
