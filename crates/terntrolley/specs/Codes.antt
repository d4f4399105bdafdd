-- Answers as numbers, for callers in C. Assumes nothing.
--   fed_code r        0 for a row; a refusal's place in the enum, counted from 1
--   fed_next n r      what the caller's number n becomes: the row after the piece, or n itself on a refusal
--   FedCoded          the code and the number of the answer that feeding the table ensures
--   Validated k t c   0 if t is a table of k rows, 1 if it is none
use Rattle.std.specs.Prelude.{◌≡◌, ◌⊎◌, List, ℕ, Ok, Err, Result}
use Rattle.machines.specs.declared.table.Row.{Row}
use Rattle.machines.specs.Words.{Word}
use Rattle.machines.specs.Tables.{SoundTable}
use Rattle.patterns.specs.declared.feeding.FeedError.{FeedError}
use Rattle.patterns.specs.declared.feeding.FeedError.TheVariants.{NoTable, Full}
use Rattle.patterns.specs.Feeding.{FedSays}

abbrev pub fed_code : Result Row FeedError → ℕ
fed_code (Ok j) = 0
fed_code (Err NoTable) = 1
fed_code (Err Full) = 2

abbrev pub fed_next : ℕ → Result Row FeedError → ℕ
fed_next n (Ok j) = j.0
fed_next n (Err NoTable) = n
fed_next n (Err Full) = n

pub record FedCoded (k : ℕ) (t : List ℕ) (i : ℕ) (w : Word) (o o' : List ℕ) (n n' c : ℕ) : Type 0 where
  pub fed : Result Row FeedError
  pub says : FedSays k t i w o o' fed
  pub code : c ≡ fed_code fed
  pub next : n' ≡ fed_next n fed

abbrev pub Validated : ℕ → List ℕ → ℕ → Type 0
Validated k t c = (SoundTable k t × (c ≡ 0)) ⊎ ((SoundTable k t → ⊥) × (c ≡ 1))
