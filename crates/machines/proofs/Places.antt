-- What stands at a place of a list, and a list made of what is known to be there for each place. Assumes nothing.
use Rattle.std.proofs.Common.{◌≡◌, ℕ, zero, suc, ◌<◌, ◌⊎◌, List, [], ◌∷◌, ◌++◌, length, get_or, refl, ap, subst, inl, inr, ⊎_elim, arith}
use mathlib.Core.Option.{some, none}
use Rattle.machines.specs.Classes.{nth}

pub none_some : {A : Type 0} (x : A) → none ≡ some x → ⊥
none_some x e = let z : ◌≡◌ {A = ℕ} 0 1 = cc in omega arith

pub some_same : {A : Type 0} {x y : A} → some x ≡ some y → x ≡ y
some_same e = cc

-- x stands at place i of xs, or is the y behind it
abbrev pub Pushed : {A : Type 0} → List A → A → ℕ → A → Type 0
Pushed xs y i x = (nth xs i ≡ some x) ⊎ ((i ≡ length xs) × (y ≡ x))

module _ {A : Type 0} where
  pub nth_at : (xs : List A) (i : ℕ) → i < length xs → (x : A) × (nth xs i ≡ some x)
  nth_at [] i l = absurd (omega arith)
  nth_at (x ∷ xs) zero l = (x, refl)
  nth_at (x ∷ xs) (suc i) l = nth_at xs i (omega arith)

  pub nth_below : (xs : List A) (i : ℕ) (x : A) → nth xs i ≡ some x → i < length xs
  nth_below [] i x e = absurd (none_some x e)
  nth_below (y ∷ xs) zero x e = omega arith
  nth_below (y ∷ xs) (suc i) x e = omega (arith, nth_below xs i x e)

  pub nth_one : (xs : List A) (i : ℕ) (x y : A) → nth xs i ≡ some x → nth xs i ≡ some y → x ≡ y
  nth_one xs i x y a b = cc

  pub nth_same : (xs ys : List A) → length xs ≡ length ys → ((i : ℕ) (x : A) → nth xs i ≡ some x → nth ys i ≡ some x) → xs ≡ ys
  nth_same [] [] e h = refl
  nth_same [] (y ∷ ys) e h = absurd (omega arith)
  nth_same (x ∷ xs) [] e h = absurd (omega arith)
  nth_same (x ∷ xs) (y ∷ ys) e h =
      let head : some y ≡ some x = h zero x refl in
      let tail = nth_same xs ys (omega arith) (λ i. h (suc i)) in
      cc

  more : (n : ℕ) (P : ℕ → A → Type 0) → (x : A) × P 0 x → (xs : List A) × (length xs ≡ n) × ((i : ℕ) (x : A) → nth xs i ≡ some x → P (suc i) x)
      → (xs : List A) × (length xs ≡ suc n) × ((i : ℕ) (x : A) → nth xs i ≡ some x → P i x)
  more n P (x, p) (xs, e, h) = (x ∷ xs, ap suc e, at)
    where
      at : (i : ℕ) (y : A) → nth (x ∷ xs) i ≡ some y → P i y
      at zero y d = subst (P 0) (some_same d) p
      at (suc i) y d = h i y d

  -- a list of n, one for each place
  pub listed : (n : ℕ) (P : ℕ → A → Type 0) → ((i : ℕ) → i < n → (x : A) × P i x)
      → (xs : List A) × (length xs ≡ n) × ((i : ℕ) (x : A) → nth xs i ≡ some x → P i x)
  listed zero P h = ([], refl, λ i x e. absurd (none_some x e))
  listed (suc n) P h = more n P (h 0 (omega arith)) (listed n (λ i. P (suc i)) (λ i l. h (suc i) (omega arith)))

  pub nth_read : (xs : List A) (d : A) (i : ℕ) → i < length xs → nth xs i ≡ some (get_or xs i d)
  nth_read [] d i h = absurd (omega arith)
  nth_read (x ∷ xs) d zero h = refl
  nth_read (x ∷ xs) d (suc i) h = nth_read xs d i (omega arith)

  -- one more at the end
  pub nth_front : (xs ys : List A) (i : ℕ) (x : A) → nth xs i ≡ some x → nth (xs ++ ys) i ≡ some x
  nth_front [] ys i x e = absurd (none_some x e)
  nth_front (z ∷ xs) ys zero x e = e
  nth_front (z ∷ xs) ys (suc i) x e = nth_front xs ys i x e

  pub nth_last : (xs : List A) (y : A) → nth (xs ++ y ∷ []) (length xs) ≡ some y
  nth_last [] y = refl
  nth_last (x ∷ xs) y = nth_last xs y

  pub nth_push : (xs : List A) (y : A) (i : ℕ) (x : A) → nth (xs ++ y ∷ []) i ≡ some x → Pushed xs y i x
  nth_push [] y zero x e = inr (refl, cc)
  nth_push [] y (suc i) x e = absurd (none_some x e)
  nth_push (z ∷ xs) y zero x e = inl e
  nth_push (z ∷ xs) y (suc i) x e = ⊎_elim (λ a. inl a) (λ b. inr (ap suc b.0, b.1)) (nth_push xs y i x e)
