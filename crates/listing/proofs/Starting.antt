-- The table of no patterns has one row: it shows no bit, and every byte leads back to it. Assumes nothing.
use Rattle.std.proofs.Common.{◌≡◌, ℕ, ◌+◌, ◌*◌, ◌<◌, ◌≤◌, List, [], ◌∷◌, length, get_or, sym, refl, ap, ◌∙◌, arith}
use Rattle.machines.specs.Words.{Word, Bytes}
use Rattle.machines.specs.Machines.{run}
use Rattle.machines.specs.Columns.{cell, shown, leads}
use Rattle.machines.specs.Minimal.{Numbered, Minimal}
use Rattle.machines.proofs.Firsts.{numbered_firsts, numbered_classes}
use Rattle.patterns.specs.Searching.{ends, FitSearch}
use Rattle.listing.specs.Listed.{EmptySays}

module _ {c : ℕ} (t : List ℕ) (zero_row : (p : ℕ) → p < 1 + c → get_or t p 0 ≡ 0) (column : ℕ → ℕ) (within : (b : ℕ) → b < 256 → column b < c) where
  shows : (i : ℕ) → i < 1 → shown t i ≡ 0
  shows i l = let e : 257 * i ≡ 0 = omega arith in ap (λ p. get_or t p 0) e ∙ zero_row 0 (omega arith)

  cells : (i : ℕ) → i < 1 → (j : ℕ) → j < c → cell t i j ≡ 0
  cells i l j m = let e : 257 * i + (1 + j) ≡ 1 + j = omega arith in ap (λ p. get_or t p 0) e ∙ zero_row (1 + j) (omega arith)

  stays : (i : ℕ) (w : Word) → i ≡ 0 → Bytes w → run (leads column t) i w ≡ 0
  stays i [] e ok = e
  stays i (b ∷ w) e (l, ok) = stays (leads column t i b) w (cells i (omega arith) (column b) (within b l)) ok

  one_numbered : Numbered 1 (leads column t)
  one_numbered = record {
    some = omega arith;
    closed = λ i b l m. omega (arith, cells i l (column b) (within b m));
    first = λ i l. ([], record { bytes = tt; comes = omega arith; least = λ v ok e. omega arith });
    order = λ i j u v l m. absurd (omega arith);
  }

  one_minimal : Minimal (ends []) 1 (leads column t) (shown t)
  one_minimal = record {
    numbered = one_numbered;
    gives = λ w ok. shows (run (leads column t) 0 w) (omega (arith, stays 0 w refl ok));
    told = λ i j l m ne. absurd (ne (omega arith));
  }

  -- all texts are in one class
  one_fits : (n : ℕ) → 0 < n → FitSearch n []
  one_fits n some =
      let F = numbered_firsts one_numbered in
      (tt, (F.0, numbered_classes one_numbered F.1 (λ u v a b. ((λ e. tt), (λ e. stays 0 u refl a ∙ sym (stays 0 v refl b)))), omega (arith, F.1.long)))

pub started : {c : ℕ} (t : List ℕ) → c ≤ 256 → 257 ≤ length t → ((p : ℕ) → p < 1 + c → get_or t p 0 ≡ 0) → EmptySays c t
started t few long zero_row column within n some = record {
  few = some;
  fits = one_fits t zero_row column within n some;
  inside = record { few = few; some = omega arith; long = omega arith; cells = λ i l j m. omega (arith, cells t zero_row column within i l j m) };
  minimal = one_minimal t zero_row column within;
}
