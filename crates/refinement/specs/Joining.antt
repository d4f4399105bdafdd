-- The table of the blocks: a row for each, in the order of their least rows. Assumes nothing.
--   Firsts k B             each of k rows has a block, called by a row of it that is no larger
--   Numbering k n B N      the blocks of k rows numbered from 0 to n by their least rows: N i is the number of i's block
--   Image c t u N i        row N i of u is row i of t, by numbers
--   Put t u v N i b        v is u with the output and the first b columns of that row written, and nothing outside it
--   Joined c k n t u       u has n rows, at most k: the least machine of what t gives
use Rattle.std.specs.Prelude.{◌≡◌, ℕ, ◌+◌, ◌*◌, ◌<◌, ◌≤◌, List, slice_index}
use Rattle.machines.specs.Words.{Word}
use Rattle.machines.specs.Columns.{Columns, cell, shown, leads}
use Rattle.machines.specs.Minimal.{Numbered, Gives, Minimal}
use Rattle.machines.specs.Inside.{Inside}

pub record Firsts (k : ℕ) (B : ℕ → ℕ) : Type 0 where
  pub low : (i : ℕ) → i < k → B i ≤ i
  pub again : (i : ℕ) → i < k → B (B i) ≡ B i

pub record Numbering (k n : ℕ) (B N : ℕ → ℕ) : Type 0 where
  pub few : n ≤ k
  pub within : (i : ℕ) → i < k → N i < n
  pub same : (i j : ℕ) → i < k → j < k → B i ≡ B j → N i ≡ N j
  pub told : (i j : ℕ) → i < k → j < k → N i ≡ N j → B i ≡ B j
  pub some : (a : ℕ) → a < n → (i : ℕ) × (i < k) × (N i ≡ a) × (B i ≡ i)
  pub up : (i j : ℕ) → i < j → j < k → B i ≡ i → B j ≡ j → N i < N j

pub record Image (c : ℕ) (t u : List ℕ) (N : ℕ → ℕ) (i : ℕ) : Type 0 where
  pub shows : shown u (N i) ≡ shown t i
  pub on : (a : ℕ) → a < c → cell u (N i) a ≡ N (cell t i a)

pub record Put (t u v : List ℕ) (N : ℕ → ℕ) (i b : ℕ) : Type 0 where
  pub shows : shown v (N i) ≡ shown t i
  pub on : (a : ℕ) → a < b → cell v (N i) a ≡ N (cell t i a)
  pub before : (p : ℕ) → p < 257 * N i → slice_index v p ≡ slice_index u p
  pub behind : (p : ℕ) → 257 * N i + 257 ≤ p → slice_index v p ≡ slice_index u p

pub record Joined (c k n : ℕ) (t u : List ℕ) : Type 0 where
  pub few : n ≤ k
  pub inside : Inside c n u
  pub minimal : (column least : ℕ → ℕ) → Columns c column least → (f : Word → ℕ) → Numbered k (leads column t) → Gives f (leads column t) (shown t) → Minimal f n (leads column u) (shown u)
