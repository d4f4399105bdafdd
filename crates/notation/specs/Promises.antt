-- What reading a text ensures. Assumes nothing.
--   Notated xs bytes names   the bytes are a list with as many patterns as there are names, each name is a word of the
--                            text, and no two are the same
--   Placed xs m              the mistake's line and column are those of a place of the text
--   NotationRead xs r        what came of reading the text xs
use Rattle.std.specs.Prelude.{◌≡◌, ℕ, ◌<◌, List, ◌++◌, length, Ok, Err, vec_items, Result}
use Rattle.std.specs.List.{All}
use Rattle.patterns.specs.Patterns.{Pattern}
use Rattle.patterns.specs.Lists.{ListOf}
use Rattle.notation.specs.declared.scan.Reader.{Reader}
use Rattle.notation.specs.declared.scan.Span.{Span}
use Rattle.notation.specs.declared.error.Mistake.{Mistake}
use Rattle.notation.specs.declared.error.Error.{Error}
use Rattle.notation.specs.declared.error.Error.TheVariants.{Misread, OutOfMemory}
use Rattle.notation.specs.declared.Notation.{Notation}
use Rattle.notation.specs.Places.{line_of, column_of}
use Rattle.notation.specs.Reading.{Past, Within}
use Rattle.notation.specs.Writing.{Added}
use Rattle.notation.specs.Names.{Unlike, Distinct}

pub record Notated (xs bytes : List ℕ) (names : List Span) : Type 0 where
  pub patterns : List Pattern
  pub list : ListOf bytes patterns
  pub named : length names ≡ length patterns
  pub within : All (Within xs) names
  pub distinct : Distinct xs names

-- one line was read from s to t: a new name, and a pattern
pub record Line (s t : Reader) (bytes bytes' : List ℕ) (names : List Span) (n : Span) : Type 0 where
  pub past : Past s t
  pub added : Added bytes bytes'
  pub room : length names < 32
  pub within : Within s.text.now n
  pub new : All (Unlike s.text.now n) names

pub record Placed (xs : List ℕ) (m : Mistake) : Type 0 where
  pub front : List ℕ
  pub rest : List ℕ
  pub cut : front ++ rest ≡ xs
  pub line : m.line ≡ line_of front
  pub column : m.column ≡ column_of front

abbrev pub NotationRead : List ℕ → Result Notation Error → Type 0
NotationRead xs (Ok n) = Notated xs (vec_items n.bytes) (vec_items n.names)
NotationRead xs (Err (Misread m)) = Placed xs m
NotationRead xs (Err OutOfMemory) = Unit {0}
