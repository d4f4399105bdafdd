-- The names of a text. Assumes nothing.
--   word_of xs n      the bytes that the span n holds of the text
--   Unlike xs n m     the spans hold different words
--   Distinct xs ns    no two of the spans hold the same word
use Rattle.std.specs.Prelude.{◌≡◌, ℕ, ◌-◌, List, take, drop}
use Rattle.std.specs.List.{AllPairs}
use Rattle.notation.specs.declared.scan.Span.{Span}

abbrev pub word_of : List ℕ → Span → List ℕ
word_of xs n = take (n.end - n.start) (drop n.start xs)

abbrev pub Unlike : List ℕ → Span → Span → Type 0
Unlike xs n m = word_of xs m ≡ word_of xs n → ⊥

abbrev pub Distinct : List ℕ → List Span → Type 0
Distinct xs ns = AllPairs (Unlike xs) ns
