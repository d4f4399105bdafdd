-- In a minimal machine a row that shows 0 and that no byte leaves is the only one from which nothing is shown: from any other
-- row some byte leads elsewhere, and the word that tells the two rows apart shows something. Assumes nothing.
use Rattle.std.proofs.Common.{◌≡◌, ℕ, zero, suc, ◌<◌, ◌⊎◌, [], ◌∷◌, sym, refl, ap, ◌∙◌, inl, inr, ⊎_elim, arith}
use Rattle.std.proofs.lemmas.Bool.{cases_eq}
use Rattle.machines.specs.Words.{Word, Bytes}
use Rattle.machines.specs.Machines.{run}
use Rattle.machines.specs.Minimal.{Minimal}
use Rattle.machines.specs.Dead.{Dead, Live, DeadRows}

module _ {go : ℕ → ℕ → ℕ} {show : ℕ → ℕ} {i : ℕ} (D : Dead go show i) where
  pub dead_run : (x : Word) → Bytes x → run go i x ≡ i
  dead_run [] ok = refl
  dead_run (b ∷ x) (l, ok) = ap (λ j. run go j x) (D.stays b l) ∙ dead_run x ok

  pub dead_silent : (x : Word) → Bytes x → show (run go i x) ≡ 0
  dead_silent x ok = ap show (dead_run x ok) ∙ D.silent

-- every byte below n stays in row i, or one leaves it
stays_or_leaves : (go : ℕ → ℕ → ℕ) (i n : ℕ) → ((b : ℕ) → b < n → go i b ≡ i) ⊎ ((b : ℕ) × (b < n) × (go i b ≡ i → ⊥))
stays_or_leaves go i zero = inl (λ b l. absurd (omega arith))
stays_or_leaves go i (suc n) = ⊎_elim
    (λ all. ⊎_elim
    (λ (e : go i n ≡ i). inl (λ b l. ⊎_elim (λ (s : b ≡ n). ap (go i) s ∙ e) (λ (s : b ≡ n → ⊥). all b (omega arith)) (cases_eq b n)))
    (λ (e : go i n ≡ i → ⊥). inr (n, omega arith, e))
    (cases_eq (go i n) i))
    (λ g. inr (g.0, omega (arith, g.1), g.2))
    (stays_or_leaves go i n)

module _ {f : Word → ℕ} {k : ℕ} {go : ℕ → ℕ → ℕ} {show : ℕ → ℕ} (M : Minimal f k go show) where
  pub live_or_dead : (i : ℕ) → i < k → Live go show i ⊎ Dead go show i
  live_or_dead i h = ⊎_elim
      (λ (e : show i ≡ 0). ⊎_elim (λ stays. inr (record { silent = e; stays = stays })) (λ (b, l, ne). inl (away b l ne)) (stays_or_leaves go i 256))
      (λ (ne : show i ≡ 0 → ⊥). inl ([], tt, ne))
      (cases_eq (show i) 0)
    where
      away : (b : ℕ) → b < 256 → (go i b ≡ i → ⊥) → Live go show i
      away b l ne =
          let w = M.told (go i b) i (M.numbered.closed i b h l) h ne in
          ⊎_elim
          (λ (e : show (run go (go i b) w.0) ≡ 0). (w.0, w.1, λ z. w.2 (e ∙ sym z)))
          (λ (d : show (run go (go i b) w.0) ≡ 0 → ⊥). (b ∷ w.0, (l, w.1), d))
          (cases_eq (show (run go (go i b) w.0)) 0)

  pub dead_one : (i j : ℕ) → i < k → j < k → Dead go show i → Dead go show j → i ≡ j
  dead_one i j h l D C = ⊎_elim
      (λ (e : i ≡ j). e)
      (λ (ne : i ≡ j → ⊥). let w = M.told i j h l ne in absurd (w.2 (dead_silent D w.0 w.1 ∙ sym (dead_silent C w.0 w.1))))
      (cases_eq i j)

pub dead_rows_stand_lem : DeadRows
dead_rows_stand_lem = record {
  either = λ f k go show M. live_or_dead M;
  never_both = λ go show i (x, ok, ne) D. ne (dead_silent D x ok);
  one = λ f k go show M. dead_one M;
}
