-- Outputs turned row by row. Assumes nothing.
--   Turning i t u    u is t with the outputs of the first i rows turned
use Rattle.std.proofs.Common.{◌≡◌, ℕ, ◌<◌, ◌≤◌, List, length, sym, subst, arith}
use Rattle.machines.specs.Columns.{shown}
use Rattle.parts.specs.Combining.{Complemented}
use Rattle.parts.specs.Steps.{Turned}
use Rattle.parts.proofs.Complements.{compl_finished}

pub record Turning (i : ℕ) (t u : List ℕ) : Type 0 where
  pub turned : Turned i t u
  pub rest : (a : ℕ) → i ≤ a → shown u a ≡ shown t a
  pub long : length u ≡ length t

pub turning_all : {k : ℕ} {t u : List ℕ} → Turning k t u → Complemented k t u
turning_all {k} {t} {u} T = record {
  turned = T.turned;
  inside = λ c I. record {
    few = I.few;
    some = I.some;
    long = omega (arith, I.long, T.long);
    cells = λ i l j m. subst (λ z. z < k) (sym (T.turned.on i j (omega (arith, I.few)))) (I.cells i l j m);
  };
  finished = λ column narrow p F. compl_finished narrow F T.turned;
}
