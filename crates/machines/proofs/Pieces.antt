-- However a text is cut, its pieces lead where the whole leads and show what it shows. Assumes nothing.
use Rattle.std.proofs.Common.{◌≡◌, ℕ, List, [], ◌∷◌, ◌++◌, sym, refl, ap, ◌∙◌}
use Rattle.machines.specs.Words.{Word, joined}
use Rattle.machines.specs.Machines.{run, trace, runs, traces}
use Rattle.machines.specs.Pieces.{Pieces, Joins}

module _ (next : ℕ → ℕ → ℕ) where
  pub run_append : (i : ℕ) (u v : Word) → run next i (u ++ v) ≡ run next (run next i u) v
  run_append i [] v = refl
  run_append i (b ∷ u) v = run_append (next i b) u v

  pub runs_joined : (i : ℕ) (ws : List Word) → runs next i ws ≡ run next i (joined ws)
  runs_joined i [] = refl
  runs_joined i (w ∷ ws) = runs_joined (run next i w) ws ∙ sym (run_append i w (joined ws))

module _ (next : ℕ → ℕ → ℕ) (output : ℕ → ℕ) where
  pub trace_append : (i : ℕ) (u v : Word) → trace next output i (u ++ v) ≡ trace next output i u ++ trace next output (run next i u) v
  trace_append i [] v = refl
  trace_append i (b ∷ u) v = ap (λ s. output (next i b) ∷ s) (trace_append (next i b) u v)

  pub traces_joined : (i : ℕ) (ws : List Word) → traces next output i ws ≡ trace next output i (joined ws)
  traces_joined i [] = refl
  traces_joined i (w ∷ ws) =
      ap (λ s. trace next output i w ++ s) (traces_joined (run next i w) ws) ∙ sym (trace_append i w (joined ws))

  pub joins : (i j : ℕ) (w : Word) (o : List ℕ) → j ≡ run next i w → o ≡ trace next output i w → Joins next output i j w o
  joins i j w o e f = record {
    leads = λ h u g. run_append next h u w ∙ ap (λ n. run next n w) g ∙ sym e;
    shows = λ h u g. trace_append h u w ∙ ap (λ n. trace next output h u ++ trace next output n w) g ∙ ap (λ s. trace next output h u ++ s) (sym f);
  }

pub pieces : Pieces
pieces = record { leads = runs_joined; shows = traces_joined }
