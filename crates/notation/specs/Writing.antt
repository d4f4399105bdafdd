-- What is written behind the bytes of a list. Assumes nothing.
--   Put xs w ys        ys is xs with the bytes w behind it, and no longer than a list may be
--   Added xs ys        a pattern was written behind xs
--   Keeps start xs ys  if one pattern stands in xs from `start` on, one does in ys
--   Parsed s t xs ys   a pattern was read from s to t, and written behind xs
use Rattle.std.specs.Prelude.{◌≡◌, ℕ, ◌≤◌, true, List, ◌++◌, length}
use Rattle.patterns.specs.Patterns.{Pattern}
use Rattle.patterns.specs.Lists.{write, sound}
use Rattle.notation.specs.declared.scan.Reader.{Reader}
use Rattle.notation.specs.Reading.{Past}

pub record Put (xs w ys : List ℕ) : Type 0 where
  pub is : ys ≡ xs ++ w
  pub short : length ys ≤ 4096

pub record Added (xs ys : List ℕ) : Type 0 where
  pub pattern : Pattern
  pub sounds : sound pattern ≡ true
  pub put : Put xs (write pattern) ys

abbrev pub Keeps : ℕ → List ℕ → List ℕ → Type 0
Keeps start xs ys = (base : List ℕ) → length base ≡ start → Added base xs → Added base ys

pub record Parsed (s t : Reader) (xs ys : List ℕ) : Type 0 where
  pub past : Past s t
  pub added : Added xs ys
