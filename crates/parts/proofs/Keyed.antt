-- A system whose keys are exactly what the step at a pattern's top must tell apart. Assumes nothing.
--   Keyed p next s    two words lead to one key exactly if the step at p's top doesn't tell them apart
use Rattle.std.proofs.Common.{◌≡◌, ℕ, Bool, true, false, ◌↔◌, List, [], ◌∷◌, ◌++◌, None, Option, sym, refl, ap, ◌∙◌, subst, arith}
use Rattle.std.proofs.lemmas.List.{append-nil}
use Rattle.machines.specs.Words.{Word, Bytes}
use Rattle.machines.specs.Columns.{Columns, shown, leads}
use Rattle.machines.specs.Machines.{run}
use Rattle.machines.specs.Minimal.{Nerode, Gives, Minimal}
use Rattle.machines.specs.Systems.{Key, reach}
use Rattle.machines.specs.Laws.{SameKey, Among}
use Rattle.machines.proofs.Codes.{bytes_push}
use Rattle.machines.proofs.Pigeons.{pairwise_many}
use Rattle.machines.proofs.Nerode.{key_push}
use Rattle.machines.proofs.Relating.{classes_related}
use Rattle.machines.proofs.Firsts.{numbered_firsts, numbered_classes, minimal_rows, explored_as}
use Rattle.machines.proofs.Reached.{few_keys}
use Rattle.exploration.specs.Exploring.{TooMany}
use Rattle.exploration.proofs.Explored.{reached_row}
use Rattle.refinement.specs.Joining.{Joined}
use Rattle.patterns.specs.Patterns.{Pattern, matches}
use Rattle.patterns.specs.Residuals.{Of, SameResidual}
use Rattle.patterns.specs.Searching.{bit}
use Rattle.patterns.specs.Sizes.{Indistinct, Top}
use Rattle.parts.specs.Steps.{Finished, Distinguished, StepDone, StepSays}
use Rattle.parts.specs.Told.{ToldApart}

pub bit_same : (a b : Bool) → bit a ≡ bit b → a ≡ b
bit_same true true e = refl
bit_same false false e = refl
bit_same true false e = absurd (omega arith)
bit_same false true e = absurd (omega arith)

pub bit_true : (b : Bool) → bit b ≡ 1 → b ≡ true
bit_true true e = refl
bit_true false e = absurd (omega arith)

pub both_true : (a b : Bool) → (a ≡ true) ↔ (b ≡ true) → a ≡ b
both_true true b i = sym (i.0 refl)
both_true false true i = i.1 refl
both_true false false i = refl

-- what a word leaves of a pattern is what its output tells apart
pub residual_nerode : (p : Pattern) (u v : Word) → SameResidual (Of p) u v ↔ Nerode (λ w. bit (matches p w)) u v
residual_nerode p u v = (
  λ e x ok. ap bit (both_true (matches p (u ++ x)) (matches p (v ++ x)) (e x ok)),
  λ e x ok. let m = bit_same (matches p (u ++ x)) (matches p (v ++ x)) (e x ok) in ((λ h. sym m ∙ h), (λ h. m ∙ h)),
)

pub residual_here : (p : Pattern) (u v : Word) → SameResidual (Of p) u v → matches p u ≡ matches p v
residual_here p u v e = both_true (matches p u) (matches p v) (rw (append-nil u, append-nil v) at (e [] tt))

module _ (column : ℕ → ℕ) (p : Pattern) (k : ℕ) (t : List ℕ) where
  pub least_rows : Minimal (λ w. bit (matches p w)) k (leads column t) (shown t)
      → (u v : Word) → Bytes u → Bytes v → (run (leads column t) 0 u ≡ run (leads column t) 0 v) ↔ SameResidual (Of p) u v
  least_rows M u v a b =
      let r = minimal_rows M u v a b in
      let n = residual_nerode p u v in
      ((λ e. n.1 (r.0 e)), (λ e. r.1 (n.0 e)))

  pub finished : Minimal (λ w. bit (matches p w)) k (leads column t) (shown t) → Finished column p k t
  finished M = let F = numbered_firsts M.numbered in record {
    minimal = M;
    residuals = (F.0, numbered_classes M.numbered F.1 (least_rows M), F.1.long, λ i u m. (F.1.first i u m).comes);
  }

-- two words lead to one row exactly if they leave the same
pub finished_rows : {column : ℕ → ℕ} {p : Pattern} {k : ℕ} {t : List ℕ} → Finished column p k t
    → (u v : Word) → Bytes u → Bytes v → (run (leads column t) 0 u ≡ run (leads column t) 0 v) ↔ SameResidual (Of p) u v
finished_rows {column} {p} {k} {t} F = least_rows column p k t F.minimal

pub record Keyed (p : Pattern) (next : Key → ℕ → Key) (s : Key) : Type 0 where
  pub keys : (u v : Word) → Bytes u → Bytes v → SameKey next s u v ↔ Indistinct p u v

module _ {p : Pattern} {next : Key → ℕ → Key} {s : Key} (K : Keyed p next s) where
  -- more keys than n are more classes than n
  step_many : {n : ℕ} → TooMany next s n → Top n p → ⊥
  step_many (ws, w) (firsts, cs, few) = pairwise_many (λ u v a b e. (K.keys u v a b).1 e) w cs few

  pub step_refused : (column : ℕ → ℕ) (c n : ℕ) (t : List ℕ) {r : Option ℕ} → r ≡ None → TooMany next s n → StepSays column c p n t r
  step_refused column c n t e many = subst (StepSays column c p n t) (sym e) (step_many many)

  -- the table of the blocks is the pattern's, and its classes are the keys that were found
  pub step_done : {shows : Key → ℕ} {column least : ℕ → ℕ} {c n k m : ℕ} {raw block t : List ℕ} → ((w : Word) → Bytes w → shows (reach next s w) ≡ bit (matches p w))
      → Columns c column least → Distinguished next s shows column c n k raw block → Joined c k m raw t → StepDone column c p n m t
  step_done {shows} {column} {least} {raw = raw} {t = t} says C D J = let F = numbered_firsts D.explored.numbered in record {
    few = omega (arith, D.few, J.few);
    top = (F.0, explored_as D.explored F.1 K.keys, omega (arith, F.1.long, D.few));
    inside = J.inside;
    finished = finished column p _ t (J.minimal column least C (λ w. bit (matches p w)) D.explored.numbered gives);
  }
    where
      gives : Gives (λ w. bit (matches p w)) (leads column raw) (shown raw)
      gives w ok = D.shows_keys (run (leads column raw) 0 w) (reached_row D.explored w ok) ∙ ap shows (D.explored.reaches w ok) ∙ says w ok

  -- finitely many keys are finitely many classes, and the next one depends on the key
  pub keyed_told : (ks : List Key) → Among next s ks → ToldApart p
  keyed_told ks among = let f = few_keys next s ks among in record {
    finite = (f.0, classes_related K.keys f.1);
    steps = λ u v b a o l e. (K.keys (u ++ b ∷ []) (v ++ b ∷ []) (bytes_push u b a l) (bytes_push v b o l)).0 (key_push next s u v b ((K.keys u v a o).1 e));
  }
