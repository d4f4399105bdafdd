-- What follows of a system that is explored: its rows stand for its keys, and show what its keys show. Assumes nothing.
use Rattle.std.proofs.Common.{◌≡◌, ℕ, ◌<◌, ◌↔◌, List, [], ◌∷◌, sym, ap, ◌∙◌}
use Rattle.machines.specs.Words.{Word, Bytes}
use Rattle.machines.specs.Machines.{run}
use Rattle.machines.specs.Columns.{shown, leads}
use Rattle.machines.specs.Minimal.{Closed, Gives}
use Rattle.machines.specs.Systems.{Key, reach, Explored}
use Rattle.exploration.specs.Exploring.{Complete}

run_inside : (k : ℕ) (goes : ℕ → ℕ → ℕ) → Closed k goes → (i : ℕ) (w : Word) → i < k → Bytes w → run goes i w < k
run_inside k goes closed i [] h o = h
run_inside k goes closed i (b ∷ w) h o = run_inside k goes closed (goes i b) w (closed i b h o.0) o.1

module _ {next : Key → ℕ → Key} {s : Key} {k : ℕ} {key : ℕ → Key} {goes : ℕ → ℕ → ℕ} (e : Explored next s k key goes) where
  pub reached_row : (w : Word) → Bytes w → run goes 0 w < k
  reached_row w o = run_inside k goes e.numbered.closed 0 w e.numbered.some o

  -- two words lead to one row exactly if they lead to one key
  pub row_key : (u v : Word) → Bytes u → Bytes v → (run goes 0 u ≡ run goes 0 v) ↔ (reach next s u ≡ reach next s v)
  row_key u v a b = (
    λ q. sym (e.reaches u a) ∙ ap key q ∙ e.reaches v b,
    λ q. e.once (run goes 0 u) (run goes 0 v) (reached_row u a) (reached_row v b) (e.reaches u a ∙ q ∙ sym (e.reaches v b)),
  )

-- what the keys show on every word, the table gives
pub complete_gives : {next : Key → ℕ → Key} {s : Key} {shows : Key → ℕ} {column : ℕ → ℕ} {count n most k : ℕ} {ks t : List ℕ} → Complete next s shows column count n most k ks t
    → (f : Word → ℕ) → ((w : Word) → Bytes w → shows (reach next s w) ≡ f w) → Gives f (leads column t) (shown t)
complete_gives {shows = shows} {column = column} {t = t} c f h w o =
    c.shows_keys (run (leads column t) 0 w) (reached_row c.explored w o) ∙ ap shows (c.explored.reaches w o) ∙ h w o
