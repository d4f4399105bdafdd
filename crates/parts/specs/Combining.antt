-- Finished tables of parts in lent words, and what the step over them must give. Assumes nothing.
--   part_words a t              the words from the part's first on
--   PartInside c a t            its rows stand there, and lead to one another
--   PartFinished column p a t   its table is p's
--   joined_pattern j            the pattern of two parts of which one has to match, or both
--   Changes f, Combines f       whatever pattern the part is, or the two parts are, the step gives the table of what f makes of them,
--                               or says that it tells too much apart
--   Complemented k t u          the outputs of the first k rows are turned, so that a pattern's table becomes that of its complement
use Rattle.std.specs.Prelude.{ℕ, ◌<◌, List, drop, Option}
use Rattle.machines.specs.Inside.{Inside}
use Rattle.exploration.specs.declared.pairs.Connective.{Connective}
use Rattle.exploration.specs.declared.pairs.Connective.TheVariants.{Or, And}
use Rattle.patterns.specs.Patterns.{Pattern, union, inter, compl}
use Rattle.parts.specs.declared.part.Part.{Part}
use Rattle.parts.specs.Steps.{Finished, StepSays, Turned}

abbrev pub part_words : Part → List ℕ → List ℕ
part_words a t = drop a.at t

abbrev pub PartInside : ℕ → Part → List ℕ → Type 0
PartInside c a t = Inside c a.rows (part_words a t)

abbrev pub PartFinished : (ℕ → ℕ) → Pattern → Part → List ℕ → Type 0
PartFinished column p a t = Finished column p a.rows (part_words a t)

abbrev pub joined_pattern : Connective → Pattern → Pattern → Pattern
joined_pattern Or p q = union p q
joined_pattern And p q = inter p q

abbrev pub Changes : (Pattern → Pattern) → (ℕ → ℕ) → ℕ → Part → ℕ → List ℕ → List ℕ → Option ℕ → Type 0
Changes f column c a n t u r = (p : Pattern) → PartFinished column p a t → StepSays column c (f p) n u r

abbrev pub Combines : (Pattern → Pattern → Pattern) → (ℕ → ℕ) → ℕ → Part → Part → ℕ → List ℕ → List ℕ → Option ℕ → Type 0
Combines f column c a b n t u r = (p q : Pattern) → PartFinished column p a t → PartFinished column q b t → StepSays column c (f p q) n u r

pub record Complemented (k : ℕ) (t u : List ℕ) : Type 0 where
  pub turned : Turned k t u
  pub inside : (c : ℕ) → Inside c k t → Inside c k u
  pub finished : (column : ℕ → ℕ) → ((b : ℕ) → b < 256 → column b < 256) → (p : Pattern) → Finished column p k t → Finished column (compl p) k u
