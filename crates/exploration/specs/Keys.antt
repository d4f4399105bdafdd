-- Keys side by side in one list, n numbers each, and where a key stands among the first k. Assumes nothing.
--   key_at ks n i                      key i
--   Finds ks n k key r                 the class of a key, or that it has none
--   Kept ks ks' n i key                key i was written, and those before it are as they were
--   Settled ks ks' n k most key r      the class of a key that is put behind the others if it is new and there is room for it
use Rattle.std.specs.Prelude.{◌≡◌, ℕ, ◌*◌, ◌<◌, ◌≤◌, List, take, drop, Some, None, Option, ◌≢◌}
use Rattle.exploration.specs.declared.index.Class.{Class}

abbrev pub key_at : List ℕ → ℕ → ℕ → List ℕ
key_at ks n i = take n (drop (i * n) ks)

abbrev pub Finds : List ℕ → ℕ → ℕ → List ℕ → Option Class → Type 0
Finds ks n k key None = (i : ℕ) → i < k → key_at ks n i ≢ key
Finds ks n k key (Some i) = (i.0 < k) × (key_at ks n i.0 ≡ key)

pub record Kept (ks ks' : List ℕ) (n i : ℕ) (key : List ℕ) : Type 0 where
  pub here : key_at ks' n i ≡ key
  pub before : (j : ℕ) → j < i → key_at ks' n j ≡ key_at ks n j

-- a class was found or is new
pub record ClassIs (ks ks' : List ℕ) (n k most : ℕ) (key : List ℕ) (i : ℕ) : Type 0 where
  pub within : i ≤ k
  pub room : i < most
  pub here : key_at ks' n i ≡ key
  pub before : (j : ℕ) → j < k → key_at ks' n j ≡ key_at ks n j
  pub fresh : i ≡ k → (j : ℕ) → j < k → key_at ks n j ≢ key

abbrev pub Settled : List ℕ → List ℕ → ℕ → ℕ → ℕ → List ℕ → Option Class → Type 0
Settled ks ks' n k most key None = (k ≡ most) × ((j : ℕ) → j < k → key_at ks n j ≢ key)
Settled ks ks' n k most key (Some i) = ClassIs ks ks' n k most key i.0
