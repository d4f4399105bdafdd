-- Pieces that were fed one after the other led where the whole leads, and wrote what it writes. Assumes nothing.
use Rattle.std.proofs.Common.{◌≡◌, ℕ, List, [], ◌∷◌, ◌++◌, Result, sym, ap, ◌∙◌, subst}
use Rattle.machines.specs.declared.table.Row.{Row}
use Rattle.machines.specs.Words.{Word}
use Rattle.machines.specs.Machines.{runs, traces}
use Rattle.machines.specs.Tables.{next, output, seen}
use Rattle.machines.proofs.Pieces.{runs_joined, traces_joined}
use Rattle.patterns.specs.declared.feeding.FeedError.{FeedError}
use Rattle.patterns.specs.Feeding.{FedSays, FedAlong, InPieces}

-- what was said of a table, of the same words and rows under other names
pub fed_moved : {h k : ℕ} {u t : List ℕ} → h ≡ k → u ≡ t → (i : ℕ) (w : Word) (o o' : List ℕ) (r : Result Row FeedError) → FedSays h u i w o o' r → FedSays k t i w o o' r
fed_moved {h = h} {t = t} e f i w o o' r says =
    subst (λ (n : ℕ). FedSays n t i w o o' r) e (subst (λ (x : List ℕ). FedSays h x i w o o' r) f says)

along_runs : (k : ℕ) (t : List ℕ) (i : ℕ) (ws : List Word) (j : ℕ) (s : List ℕ) → FedAlong k t i ws j s
    → (j ≡ runs (next t) i ws) × (s ≡ traces (next t) (output t) i ws)
along_runs k t i [] j s f = f
along_runs k t i (w ∷ ws) j s (h, o, o', rest, says, along, e) =
    let (leads, shows) = along_runs k t h.0 ws j rest along in (
      leads ∙ ap (λ n. runs (next t) n ws) says.2,
      e ∙ ap (λ x. x ++ rest) says.3 ∙ ap (λ x. seen t i w ++ x) (shows ∙ ap (λ n. traces (next t) (output t) n ws) says.2),
    )

pub in_pieces : InPieces
in_pieces k t i ws j s f h o o' says =
    let (leads, shows) = along_runs k t i ws j s f in
    (says.2 ∙ sym (leads ∙ runs_joined (next t) i ws), says.3 ∙ sym (shows ∙ traces_joined (next t) (output t) i ws))
