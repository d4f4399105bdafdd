-- A list of patterns written as bytes, in prefix order. Assumes nothing.
--   write p, write_list ps   the bytes of a pattern; of patterns, one after the other
--   sound p, sound_list ps   every range goes from a byte to one that isn't smaller
--   ListOf s ps              the bytes s are the list of the patterns ps
--   OneList                  bytes are the writing of at most one list
--   Stands s at w stop       the bytes w stand in s, from place `at` up to place `stop`
use Rattle.std.specs.Prelude.{◌≡◌, ℕ, ◌≤◌, Bool, true, ◌&&◌, List, [], ◌∷◌, ◌++◌, length, drop, nat_le, nat_lt}
use Rattle.patterns.specs.Patterns.{Pattern, nothing, empty, range, seq, union, inter, compl, star}

abbrev pub write : Pattern → List ℕ
write nothing = 0 ∷ []
write empty = 1 ∷ []
write (range a b) = 2 ∷ a ∷ b ∷ []
write (seq p q) = 3 ∷ (write p ++ write q)
write (union p q) = 4 ∷ (write p ++ write q)
write (inter p q) = 5 ∷ (write p ++ write q)
write (compl p) = 6 ∷ write p
write (star p) = 7 ∷ write p

abbrev pub write_list : List Pattern → List ℕ
write_list [] = []
write_list (p ∷ ps) = write p ++ write_list ps

abbrev pub sound : Pattern → Bool
sound nothing = true
sound empty = true
sound (range a b) = nat_lt b 256 && nat_le a b
sound (seq p q) = sound p && sound q
sound (union p q) = sound p && sound q
sound (inter p q) = sound p && sound q
sound (compl p) = sound p
sound (star p) = sound p

abbrev pub sound_list : List Pattern → Bool
sound_list [] = true
sound_list (p ∷ ps) = sound p && sound_list ps

pub record ListOf (s : List ℕ) (ps : List Pattern) : Type 0 where
  pub written : write_list ps ≡ s
  pub sounds : sound_list ps ≡ true
  pub few : length ps ≤ 32
  pub short : length s ≤ 4096

abbrev pub OneList : Type 0
OneList = (s : List ℕ) (ps qs : List Pattern) → ListOf s ps → ListOf s qs → ps ≡ qs

pub record Stands (s : List ℕ) (at : ℕ) (w : List ℕ) (stop : ℕ) : Type 0 where
  pub is : drop at s ≡ w ++ drop stop s
  pub within : stop ≤ length s
