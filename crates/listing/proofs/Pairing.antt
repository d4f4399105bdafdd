-- Two least machines read side by side: if what the pair shows tells both outputs, then the pairs that are reached are a least
-- machine, and nothing is left to join. Assumes nothing.
use Rattle.std.proofs.Common.{◌≡◌, ℕ, ◌<◌, ◌⊎◌, List, [], ◌∷◌, ◌++◌, sym, ap, ◌∙◌, inl, inr, ⊎_elim}
use Rattle.std.proofs.lemmas.Bool.{cases_eq}
use Rattle.machines.specs.Words.{Word, Bytes}
use Rattle.machines.specs.Machines.{run}
use Rattle.machines.specs.Columns.{shown, leads}
use Rattle.machines.specs.Minimal.{First, Gives, Told, Minimal}
use Rattle.machines.specs.Systems.{Key, reach, Explored}
use Rattle.machines.proofs.Nerode.{gives_after}
use Rattle.machines.proofs.Firsts.{numbered_below}
use Rattle.exploration.specs.Pairs.{pair_next}
use Rattle.exploration.proofs.Paired.{pair_same}

-- a word behind two others that f tells apart then
abbrev ToldBy : (Word → ℕ) → Word → Word → Type 0
ToldBy f u v = (x : Word) × Bytes x × (f (u ++ x) ≡ f (v ++ x) → ⊥)

module _ {f : Word → ℕ} {k : ℕ} {go : ℕ → ℕ → ℕ} {show : ℕ → ℕ} (M : Minimal f k go show) (u v : Word) (a : Bytes u) (b : Bytes v) where
  -- two words lead to one row, or f tells them apart after a word
  same_or_told : (run go 0 u ≡ run go 0 v) ⊎ ToldBy f u v
  same_or_told = ⊎_elim (λ (e : run go 0 u ≡ run go 0 v). inl e)
      (λ (ne : run go 0 u ≡ run go 0 v → ⊥).
      let T = M.told (run go 0 u) (run go 0 v) (numbered_below M.numbered u a) (numbered_below M.numbered v b) ne in
      inr (T.0, T.1, λ e. T.2 (gives_after f go show 0 M.gives u T.0 a T.1 ∙ e ∙ sym (gives_after f go show 0 M.gives v T.0 b T.1))))
      (cases_eq (run go 0 u) (run go 0 v))

module _ (column : ℕ → ℕ) (l r : List ℕ) {f g h : Word → ℕ} (both : (u v : Word) → h u ≡ h v → (f u ≡ f v) × (g u ≡ g v))
    {m n : ℕ} (L : Minimal f m (leads column l) (shown l)) (R : Minimal g n (leads column r) (shown r))
    {k : ℕ} {key : ℕ → Key} {go : ℕ → ℕ → ℕ} (show : ℕ → ℕ) (X : Explored (pair_next column l r) (0 ∷ 0 ∷ []) k key go) (gives : Gives h go show) where
  told_pair : (u v : Word) → Bytes u → Bytes v → (reach (pair_next column l r) (0 ∷ 0 ∷ []) u ≡ reach (pair_next column l r) (0 ∷ 0 ∷ []) v → ⊥) → ToldBy h u v
  told_pair u v a b ne = ⊎_elim
      (λ (e : run (leads column l) 0 u ≡ run (leads column l) 0 v). ⊎_elim
      (λ (d : run (leads column r) 0 u ≡ run (leads column r) 0 v). absurd (ne ((pair_same column l r u v).1 (e, d))))
      (λ (t : ToldBy g u v). (t.0, t.1, λ s. t.2 (both (u ++ t.0) (v ++ t.0) s).1))
      (same_or_told R u v a b))
      (λ (t : ToldBy f u v). (t.0, t.1, λ s. t.2 (both (u ++ t.0) (v ++ t.0) s).0))
      (same_or_told L u v a b)

  -- by the first words of two rows
  told_first : (i j : ℕ) (u v : Word) → i < k → j < k → First go i u → First go j v → (i ≡ j → ⊥) → Told go show i j
  told_first i j u v a b F G ne = let t = told_pair u v F.bytes G.bytes (λ e. ne (X.once i j a b (keyed F ∙ e ∙ sym (keyed G)))) in
      (t.0, t.1, λ e. t.2 (sym (after F t.0 t.1) ∙ e ∙ after G t.0 t.1))
    where
      keyed : {q : ℕ} {w : Word} → First go q w → key q ≡ reach (pair_next column l r) (0 ∷ 0 ∷ []) w
      keyed {w = w} W = ap key (sym W.comes) ∙ X.reaches w W.bytes

      after : {q : ℕ} {w : Word} → First go q w → (x : Word) → Bytes x → show (run go q x) ≡ h (w ++ x)
      after {w = w} W x ok = ap (λ p. show (run go p x)) (sym W.comes) ∙ gives_after h go show 0 gives w x W.bytes ok

  pub pair_minimal : Minimal h k go show
  pair_minimal = let first = X.numbered.first in record {
    numbered = X.numbered;
    gives = gives;
    told = λ i j a b. told_first i j (first i a).0 (first j b).0 a b (first i a).1 (first j b).1;
  }
