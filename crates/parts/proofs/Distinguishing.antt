-- Blocks that stand at the front of a longer list, and the areas of the work memory that they stand in. Assumes nothing.
use Rattle.std.proofs.Common.{◌≡◌, ℕ, ◌*◌, ◌<◌, ◌≤◌, List, ◌++◌, length, take, sym, ap, ◌∙◌, subst, arith}
use Rattle.std.proofs.lemmas.List.{places, take_at, drop_at}
use Rattle.refinement.specs.Refining.{at, Refined}
use Rattle.patterns.specs.Patterns.{Pattern}
use Rattle.parts.specs.Steps.{raw_area, block_area, Finished}

module _ {c k : ℕ} {t : List ℕ} {B D : ℕ → ℕ} (same : (i : ℕ) → i < k → D i ≡ B i) (R : Refined c k t B) where
  back : {i j : ℕ} → i < k → j < k → D i ≡ D j → B i ≡ B j
  back {i} {j} l m e = sym (same i l) ∙ e ∙ same j m

  on : {i j : ℕ} → i < k → j < k → B i ≡ B j → D i ≡ D j
  on {i} {j} l m e = same i l ∙ e ∙ sym (same j m)

  pub refined_as : Refined c k t D
  refined_as = record {
    low = λ i l. omega (arith, same i l, R.low i l);
    again = λ i l. ap D (same i l) ∙ same (B i) (omega (arith, R.low i l)) ∙ R.again i l ∙ sym (same i l);
    like = λ column least C i j l m e. R.like column least C i j l m (back l m e);
    same = λ column least C i j l m e. on l m (R.same column least C i j l m e);
    told = λ column least C i j l m ne. R.told column least C i j l m (λ e. ne (on l m e));
  }

pub refined_front : {c k : ℕ} {t : List ℕ} (front behind : List ℕ) → k ≤ length front → Refined c k t (at front) → Refined c k t (at (front ++ behind))
refined_front front behind h = refined_as (λ i l. grind (arith, places))

raw_at : (n : ℕ) (raw rest : List ℕ) → length raw ≡ 257 * n → raw_area n (raw ++ rest) ≡ raw
raw_at n raw rest e = take_at raw rest (257 * n) e

block_at : (n : ℕ) (raw block rest : List ℕ) → length raw ≡ 257 * n → length block ≡ n → block_area n (raw ++ (block ++ rest)) ≡ block
block_at n raw block rest e f = ap (take n) (drop_at raw (block ++ rest) (257 * n) e) ∙ take_at block rest n f

-- what holds of a table and its blocks holds of the areas of the work memory that they stand in
pub in_areas : {n : ℕ} (P : List ℕ → List ℕ → Type 0) (raw block rest : List ℕ) → length raw ≡ 257 * n → length block ≡ n → P raw block
    → P (raw_area n (raw ++ (block ++ rest))) (block_area n (raw ++ (block ++ rest)))
in_areas {n} P raw block rest e f h =
    subst (λ t. P t (block_area n (raw ++ (block ++ rest)))) (sym (raw_at n raw (block ++ rest) e)) (subst (P raw) (sym (block_at n raw block rest e f)) h)

-- what holds of a table's words, columns and rows holds of what they are
pub of_table : {s t : List ℕ} {a c l k : ℕ} (P : List ℕ → ℕ → ℕ → Type 0) → (s ≡ t) × (a ≡ c) × (l ≡ k) → P s a l → P t c k
of_table {s} {t} {a} {c} {l} {k} P (e, f, g) h = subst (λ z. P z c k) e (subst (λ (z : ℕ). P s z k) f (subst (λ (z : ℕ). P s a z) g h))

-- a pattern's table is its table by whatever name
pub finished_table : {column : ℕ → ℕ} {p : Pattern} {s t : List ℕ} {a c l k : ℕ} → (s ≡ t) × (a ≡ c) × (l ≡ k) → Finished column p k t → Finished column p l s
finished_table {column} {p} (e, f, g) F = of_table (λ t _ k. Finished column p k t) (sym e, sym f, sym g) F
