-- Keys in m buckets: a bucket's last key, and before each key the last one of its bucket; a number is one more than the key's,
-- and 0 is none. Assumes nothing.
--   hashed h key                    what a key's numbers are hashed to, from h on
--   bucket m key                    the bucket that a key is in
--   Last m key h k c                c - 1 is the last key of bucket h among the first k, or c is 0 and none is
--   Indexed m key k heads links     the first k keys are all in their buckets
--   Reindexed m key k heads links r after a key was settled among k: found, or put as the last
use Rattle.std.specs.Prelude.{◌≡◌, ℕ, ◌+◌, ◌-◌, ◌*◌, ◌%◌, ◌<◌, ◌≤◌, List, [], ◌∷◌, Some, None, Option, ◌≢◌, slice_index}
use Rattle.exploration.specs.declared.index.Class.{Class}

abbrev pub hashed : ℕ → List ℕ → ℕ
hashed h [] = h
hashed h (w ∷ ws) = hashed ((h * 2654435761 + w) % 4294967291) ws

abbrev pub bucket : ℕ → List ℕ → ℕ
bucket m key = hashed 0 key % m

pub record Last (m : ℕ) (key : ℕ → List ℕ) (h k c : ℕ) : Type 0 where
  pub within : c ≤ k
  pub here : 0 < c → bucket m (key (c - 1)) ≡ h
  pub past : (i : ℕ) → c ≤ i → i < k → bucket m (key i) ≢ h

pub record Indexed (m : ℕ) (key : ℕ → List ℕ) (k : ℕ) (heads links : List ℕ) : Type 0 where
  pub heads_last : (h : ℕ) → h < m → Last m key h k (slice_index heads h)
  pub links_last : (i : ℕ) → i < k → Last m key (bucket m (key i)) i (slice_index links i)

abbrev pub Reindexed : ℕ → (ℕ → List ℕ) → ℕ → List ℕ → List ℕ → Option Class → Type 0
Reindexed m key k heads links None = Unit {0}
Reindexed m key k heads links (Some i) = (i.0 < k → Indexed m key k heads links) × (i.0 ≡ k → Indexed m key (k + 1) heads links)
