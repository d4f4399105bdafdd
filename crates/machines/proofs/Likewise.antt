-- A machine that goes and shows, below row k, as another does is as the other is: numbered, and minimal. Assumes nothing.
use Rattle.std.proofs.Common.{◌≡◌, ℕ, ◌<◌, [], ◌∷◌, sym, refl, ap, ◌∙◌, subst}
use Rattle.machines.specs.Words.{Word, Bytes}
use Rattle.machines.specs.Machines.{run}
use Rattle.machines.specs.Minimal.{Closed, First, Gives, Numbered, Minimal}
use Rattle.machines.proofs.Nerode.{run_below}

module _ {k : ℕ} {next goes : ℕ → ℕ → ℕ} (same : (i b : ℕ) → i < k → b < 256 → goes i b ≡ next i b) where
  pub run_like : Closed k next → (i : ℕ) (w : Word) → i < k → Bytes w → run goes i w ≡ run next i w
  run_like closed i [] l ok = refl
  run_like closed i (b ∷ w) l (m, ok) = ap (λ j. run goes j w) (same i b l m) ∙ run_like closed (next i b) w (closed i b l m) ok

  pub numbered_like : Numbered k next → Numbered k goes
  numbered_like N = record {
    some = N.some;
    closed = λ i b l m. subst (λ j. j < k) (sym (same i b l m)) (N.closed i b l m);
    first = λ i l. let F = N.first i l in (
      F.0,
      record {
        bytes = F.1.bytes;
        comes = on F.0 F.1.bytes ∙ F.1.comes;
        least = λ v ok e. F.1.least v ok (sym (on v ok) ∙ e);
      },
    );
    order = λ i j u v l m a b. N.order i j u v l m (back a) (back b);
  }
    where
      on : (w : Word) → Bytes w → run goes 0 w ≡ run next 0 w
      on w ok = run_like N.closed 0 w N.some ok

      back : {i : ℕ} {w : Word} → First goes i w → First next i w
      back {w = w} F = record {
        bytes = F.bytes;
        comes = sym (on w F.bytes) ∙ F.comes;
        least = λ v ok e. F.least v ok (on v ok ∙ e);
      }

  module _ {output shows : ℕ → ℕ} (shown : (i : ℕ) → i < k → shows i ≡ output i) where
    show_like : Closed k next → (i : ℕ) (w : Word) → i < k → Bytes w → shows (run goes i w) ≡ output (run next i w)
    show_like closed i w l ok = ap shows (run_like closed i w l ok) ∙ shown (run next i w) (run_below k next closed i w l ok)

    pub gives_alike : {f : Word → ℕ} → Numbered k next → Gives f next output → Gives f goes shows
    gives_alike N gives w ok = show_like N.closed 0 w N.some ok ∙ gives w ok

    pub minimal_like : {f : Word → ℕ} → Minimal f k next output → Minimal f k goes shows
    minimal_like M = let N = M.numbered in record {
      numbered = numbered_like N;
      gives = gives_alike N M.gives;
      told = λ i j l m ne. let T = M.told i j l m ne in
          (T.0, T.1, λ e. T.2 (sym (show_like N.closed i T.0 l T.1) ∙ e ∙ show_like N.closed j T.0 m T.1));
    }
