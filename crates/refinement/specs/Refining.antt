-- The rows of a table parted into blocks of rows that do alike, each called by its least row. Assumes nothing.
--   at s i                  what stands at place i of a list, 0 past its end
--   Same, Other c t B i j   what a round looks at: rows i and j are in one block, show the same and lead to the same
--                           blocks; or one of these fails
--   Found c t B i j         j is the least row that is the same as row i
--   Blocks c k t B          k rows in blocks; rows of different blocks are told apart by a word
--   Refined c k t B         two rows are in one block exactly if the outputs from them agree after every word
use Rattle.std.specs.Prelude.{◌≡◌, ℕ, ◌<◌, ◌≤◌, ◌⊎◌, List, ◌≢◌, slice_index}
use Rattle.machines.specs.Columns.{Columns, cell, shown, leads}
use Rattle.machines.specs.Minimal.{Like, Told}

abbrev pub at : List ℕ → ℕ → ℕ
at s i = slice_index s i

pub record Same (c : ℕ) (t : List ℕ) (B : ℕ → ℕ) (i j : ℕ) : Type 0 where
  pub old : B i ≡ B j
  pub shows : shown t i ≡ shown t j
  pub on : (a : ℕ) → a < c → B (cell t i a) ≡ B (cell t j a)

abbrev pub Other : ℕ → List ℕ → (ℕ → ℕ) → ℕ → ℕ → Type 0
Other c t B i j = (B i ≢ B j) ⊎ ((shown t i ≢ shown t j) ⊎ ((a : ℕ) × (a < c) × (B (cell t i a) ≢ B (cell t j a))))

pub record Found (c : ℕ) (t : List ℕ) (B : ℕ → ℕ) (i j : ℕ) : Type 0 where
  pub low : j ≤ i
  pub same : Same c t B j i
  pub least : (r : ℕ) → r < j → Other c t B r i

pub record Blocks (c k : ℕ) (t : List ℕ) (B : ℕ → ℕ) : Type 0 where
  pub low : (i : ℕ) → i < k → B i ≤ i
  pub told : (column least : ℕ → ℕ) → Columns c column least → (i j : ℕ) → i < k → j < k → (B i ≢ B j) → Told (leads column t) (shown t) i j

pub record Refined (c k : ℕ) (t : List ℕ) (B : ℕ → ℕ) : Type 0 where
  pub low : (i : ℕ) → i < k → B i ≤ i
  pub again : (i : ℕ) → i < k → B (B i) ≡ B i
  pub like : (column least : ℕ → ℕ) → Columns c column least → (i j : ℕ) → i < k → j < k → B i ≡ B j → Like (leads column t) (shown t) i j
  pub same : (column least : ℕ → ℕ) → Columns c column least → (i j : ℕ) → i < k → j < k → Like (leads column t) (shown t) i j → B i ≡ B j
  pub told : (column least : ℕ → ℕ) → Columns c column least → (i j : ℕ) → i < k → j < k → (B i ≢ B j) → Told (leads column t) (shown t) i j
