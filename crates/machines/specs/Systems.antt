-- Deterministic systems whose states are keys: lists of a fixed number of numbers. Assumes nothing.
--   reach next s w                the key that a word leads to
--   Lawful s next good n column least   the good keys have n numbers, the first is one, and a byte leads from a good key to
--                                 a good key, the same one for all bytes of a column
--   Pairwise next s k ws          k words that lead to pairwise different keys
--   Explored next s k key t       k rows: the keys that are reached, each once, by first words, with their table's machine
use Rattle.std.specs.Prelude.{◌≡◌, ℕ, ◌<◌, List, [], ◌∷◌, length, ◌≢◌, slice_index_or}
use Rattle.machines.specs.Words.{Word, Bytes}
use Rattle.machines.specs.Machines.{run}
use Rattle.machines.specs.Minimal.{Numbered}

abbrev pub Key : Type 0
Key = List ℕ

abbrev pub reach : (Key → ℕ → Key) → Key → Word → Key
reach next s [] = s
reach next s (b ∷ w) = reach next (next s b) w

pub record Lawful (s : Key) (next : Key → ℕ → Key) (good : Key → Type 0) (n : ℕ) (column least : ℕ → ℕ) : Type 0 where
  pub starts : good s
  pub stays : (k : Key) (b : ℕ) → good k → b < 256 → good (next k b)
  pub wide : (k : Key) → good k → length k ≡ n
  pub alike : (k : Key) (b : ℕ) → good k → b < 256 → next k b ≡ next k (least (column b))

pub record Pairwise (next : Key → ℕ → Key) (s : Key) (k : ℕ) (ws : List Word) : Type 0 where
  pub many : length ws ≡ k
  pub bytes : (i : ℕ) → i < k → Bytes (slice_index_or ws i [])
  pub differ : (i j : ℕ) → i < j → j < k → reach next s (slice_index_or ws i []) ≢ reach next s (slice_index_or ws j [])

pub record Explored (next : Key → ℕ → Key) (s : Key) (k : ℕ) (key : ℕ → Key) (goes : ℕ → ℕ → ℕ) : Type 0 where
  pub numbered : Numbered k goes
  pub once : (i j : ℕ) → i < k → j < k → key i ≡ key j → i ≡ j
  pub reaches : (w : Word) → Bytes w → key (run goes 0 w) ≡ reach next s w
