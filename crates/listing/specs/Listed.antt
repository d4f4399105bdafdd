-- The table of a list's front, and one pattern more. Assumes nothing.
--   Listed column c ps n k t       the patterns ps fit into n classes, and t's k rows over c columns are the least machine of
--                                  the bits of ps
--   NextSays                       what is promised of one pattern more: the table of the longer list, or that no list that
--                                  begins so fits
--   JoinSays                       the same for every list and pattern whose tables two tables are
--   EmptySays c t                  t's first row is the table of no patterns, whatever the columns
--   SearchLaws                     what a search need not tell apart is what the bits don't tell apart; no list fits into no
--                                  class
use Rattle.std.specs.Prelude.{◌≡◌, ℕ, ◌<◌, ◌≤◌, ◌↔◌, List, [], ◌∷◌, ◌++◌, length, Some, None, Option}
use Rattle.machines.specs.Words.{Word}
use Rattle.machines.specs.Columns.{shown, leads}
use Rattle.machines.specs.Inside.{Inside}
use Rattle.machines.specs.Minimal.{Nerode, Minimal}
use Rattle.patterns.specs.Patterns.{Pattern, matches}
use Rattle.patterns.specs.Sizes.{Fits}
use Rattle.patterns.specs.Searching.{anywhere, bit, ends, SameSearch, FitSearch}

pub record Listed (column : ℕ → ℕ) (c : ℕ) (ps : List Pattern) (n k : ℕ) (t : List ℕ) : Type 0 where
  pub few : k ≤ n
  pub fits : FitSearch n ps
  pub inside : Inside c k t
  pub minimal : Minimal (ends ps) k (leads column t) (shown t)

abbrev pub NextSays : (ℕ → ℕ) → ℕ → List Pattern → Pattern → ℕ → List ℕ → Option ℕ → Type 0
NextSays column c ps p n t (Some k) = Listed column c (ps ++ p ∷ []) n k t
NextSays column c ps p n t None = (qs : List Pattern) → FitSearch n ((ps ++ p ∷ []) ++ qs) → ⊥

abbrev pub JoinSays : (ℕ → ℕ) → ℕ → ℕ → ℕ → ℕ → List ℕ → ℕ → List ℕ → List ℕ → Option ℕ → Type 0
JoinSays column c n i fronts front nexts next t r = (ps : List Pattern) (p : Pattern) → length ps ≡ i → Listed column c ps n fronts front → Fits n (anywhere p)
    → Minimal (λ w. bit (matches (anywhere p) w)) nexts (leads column next) (shown next) → NextSays column c ps p n t r

abbrev pub EmptySays : ℕ → List ℕ → Type 0
EmptySays c t = (column : ℕ → ℕ) → ((b : ℕ) → b < 256 → column b < c) → (n : ℕ) → 0 < n → Listed column c [] n 1 t

pub record SearchLaws : Type 0 where
  pub nerode : (ps : List Pattern) (u v : Word) → SameSearch ps u v ↔ Nerode (ends ps) u v
  pub none : (ps : List Pattern) → FitSearch 0 ps → ⊥
