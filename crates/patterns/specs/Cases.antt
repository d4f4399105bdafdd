-- Worked examples, as facts about the definitions: a is 97, b is 98. Assumes nothing.
use Rattle.std.specs.Prelude.{◌≡◌, true, false, List, [], ◌∷◌}
use Rattle.patterns.specs.Patterns.{Pattern, nothing, empty, range, seq, union, inter, compl, star, matches}
use Rattle.patterns.specs.Lists.{write_list}
use Rattle.patterns.specs.Searching.{ends}

abbrev pub a : Pattern
a = range 97 97

abbrev pub b : Pattern
b = range 98 98

abbrev pub anything : Pattern
anything = star (union a b)

-- has an a, and no bb
abbrev pub tidy : Pattern
tidy = inter (seq anything (seq a anything)) (compl (seq anything (seq b (seq b anything))))

-- ab; b's, one at least; bb
abbrev pub three : List Pattern
three = seq a b ∷ seq b (star b) ∷ seq b b ∷ []

pub record WorkedCases : Type 0 where
  pub baba : matches tidy (98 ∷ 97 ∷ 98 ∷ 97 ∷ []) ≡ true
  pub babb : matches tidy (98 ∷ 97 ∷ 98 ∷ 98 ∷ []) ≡ false
  pub just_b : matches tidy (98 ∷ []) ≡ false
  pub after_bab : ends three (98 ∷ 97 ∷ 98 ∷ []) ≡ 3
  pub after_babb : ends three (98 ∷ 97 ∷ 98 ∷ 98 ∷ []) ≡ 6
  pub after_none : ends three [] ≡ 0
  pub two_patterns : write_list (inter (compl empty) (star (range 48 57)) ∷ nothing ∷ []) ≡ 5 ∷ 6 ∷ 1 ∷ 7 ∷ 2 ∷ 48 ∷ 57 ∷ 0 ∷ []
  pub many_of_empty : matches (star empty) [] ≡ true
  pub many_of_empty_a : matches (star empty) (97 ∷ []) ≡ false
  pub many_of_not_empty : matches (star (compl empty)) (97 ∷ 0 ∷ []) ≡ true
