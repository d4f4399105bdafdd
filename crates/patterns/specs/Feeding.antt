-- What feeding a table ensures. Assumes nothing.
--   FedSays k t i w o o' r    the answer r to a piece w, fed to the k rows of t from row i, and what it leaves of the
--                             numbers o: exact if t is a table; a refusal writes nothing, and what lies behind the
--                             piece's numbers stays
--   FedAlong k t i ws j s     pieces ws were fed, each from the row that the one before it led to; row j was the last,
--                             and s is what they wrote, joined
--   InPieces                  then the joined text, fed at once, leads to row j and writes s
use Rattle.std.specs.Prelude.{◌≡◌, ℕ, ◌<◌, List, [], ◌∷◌, ◌++◌, length, take, drop, Ok, Err, Result}
use Rattle.machines.specs.declared.table.Row.{Row}
use Rattle.machines.specs.Words.{Word, joined}
use Rattle.machines.specs.Tables.{SoundTable, walk, seen}
use Rattle.machines.specs.Pieces.{Pieces}
use Rattle.patterns.specs.declared.feeding.FeedError.{FeedError}
use Rattle.patterns.specs.declared.feeding.FeedError.TheVariants.{NoTable, Full}

abbrev pub FedSays : ℕ → List ℕ → ℕ → Word → List ℕ → List ℕ → Result Row FeedError → Type 0
FedSays k t i w o o' (Ok j) = SoundTable k t × (i < k) × (j.0 ≡ walk t i w) × (take (length w) o' ≡ seen t i w) × (drop (length w) o' ≡ drop (length w) o)
FedSays k t i w o o' (Err NoTable) = (SoundTable k t × (i < k) → ⊥) × (o' ≡ o)
FedSays k t i w o o' (Err Full) = SoundTable k t × (i < k) × (length o < length w) × (o' ≡ o)

abbrev pub FedAlong : ℕ → List ℕ → ℕ → List Word → ℕ → List ℕ → Type 0
FedAlong k t i [] j s = (j ≡ i) × (s ≡ [])
FedAlong k t i (w ∷ ws) j s =
    (h : Row) × (o : List ℕ) × (o' : List ℕ) × (rest : List ℕ) × FedSays k t i w o o' (Ok h) × FedAlong k t h.0 ws j rest × (s ≡ take (length w) o' ++ rest)

abbrev pub InPieces : Type 0
InPieces = (k : ℕ) (t : List ℕ) (i : ℕ) (ws : List Word) (j : ℕ) (s : List ℕ) → FedAlong k t i ws j s
    → (h : Row) (o o' : List ℕ) → FedSays k t i (joined ws) o o' (Ok h) → (h.0 ≡ j) × (take (length (joined ws)) o' ≡ s)

pub record FedPost (k : ℕ) (t : List ℕ) (i : ℕ) (w : Word) (o o' : List ℕ) (r : Result Row FeedError) : Type 0 where
  pub says : FedSays k t i w o o' r
  pub pieces : Pieces
  pub fed : InPieces
