-- An index of keys in lent words. Assumes nothing.
--   Stands s          its parts are long enough for as many keys as there is room for, and the keys are in their buckets
--   Same s s'         keys of as many words, room for as many, in the same lent words
--   Counts k k' r     how many keys there are when one has settled: one more if it has the class behind the others
use Rattle.std.specs.Prelude.{◌≡◌, ℕ, ◌+◌, ◌*◌, ◌<◌, ◌≤◌, length, Some, None, Option}
use Rattle.exploration.specs.declared.index.Class.{Class}
use Rattle.exploration.specs.declared.index.Index.{Index}
use Rattle.exploration.specs.Keys.{key_at}
use Rattle.exploration.specs.Hashed.{Indexed}

pub record Stands (s : Index) : Type 0 where
  pub few : s.count ≤ s.most
  pub keys : s.most * s.size ≤ length s.keys.now
  pub heads : length s.heads.now ≡ 4096
  pub links : s.most ≤ length s.links.now
  pub indexed : Indexed 4096 (key_at s.keys.now s.size) s.count s.heads.now s.links.now

pub record Same (s s' : Index) : Type 0 where
  pub size : s'.size ≡ s.size
  pub most : s'.most ≡ s.most
  pub keys : s'.keys.ghost_name ≡ s.keys.ghost_name
  pub heads : s'.heads.ghost_name ≡ s.heads.ghost_name
  pub links : s'.links.ghost_name ≡ s.links.ghost_name

abbrev pub Counts : ℕ → ℕ → Option Class → Type 0
Counts k k' None = k' ≡ k
Counts k k' (Some i) = (i.0 < k → k' ≡ k) × (i.0 ≡ k → k' ≡ k + 1)
