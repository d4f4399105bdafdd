-- What an exploration of a system has found, on the way and at its end. Assumes nothing.
--   word_at ws i         the word that key i was found by
--   Led                  row j is where column c leads from row i, and its word is no later than that of row i with the column's
--                        least byte behind it
--   Partly               k keys are found, and the columns below c of this row and all columns of the rows before it are read
--   On                   the same of keys and a table in memory, for some words, where the rows below done show what their keys show
--   TooMany              more words than there is room for, and no two lead to one key
--   Complete             all keys are found, and the table of their k rows is written
--   IsLawful             what a system's first key and its steps are promised to be
--   ReadTo               all rows before this one are read, of an index's keys and a table
--   RowSays, Says        what is promised of a row, and of an exploration
use Rattle.std.specs.Prelude.{◌≡◌, ℕ, ◌+◌, ◌*◌, ◌<◌, ◌≤◌, List, [], Some, None, Option, slice_index_or}
use Rattle.machines.specs.Words.{Word}
use Rattle.machines.specs.Columns.{cell, shown, leads}
use Rattle.machines.specs.Inside.{Inside}
use Rattle.machines.specs.Minimal.{code}
use Rattle.machines.specs.Systems.{Key, reach, Lawful, Pairwise, Explored}
use Rattle.exploration.specs.declared.system.System.{Ghosts}
use Rattle.exploration.specs.Keys.{key_at}
use Rattle.exploration.specs.declared.index.Index.{Index}

abbrev pub word_at : List Word → ℕ → Word
word_at ws i = slice_index_or ws i []

pub record Led (next : Key → ℕ → Key) (s : Key) (least : ℕ → ℕ) (k : ℕ) (ws : List Word) (i c j : ℕ) : Type 0 where
  pub within : j < k
  pub same : reach next s (word_at ws j) ≡ next (reach next s (word_at ws i)) (least c)
  pub early : code 0 (word_at ws j) ≤ 256 * code 0 (word_at ws i) + (1 + least c)

pub record Partly (next : Key → ℕ → Key) (s : Key) (least : ℕ → ℕ) (count k row c : ℕ) (key : ℕ → Key) (t : List ℕ) (ws : List Word) : Type 0 where
  pub apart : Pairwise next s k ws
  pub some : 0 < k
  pub starts : word_at ws 0 ≡ []
  pub keyed : (i : ℕ) → i < k → key i ≡ reach next s (word_at ws i)
  pub order : (i j : ℕ) → i < j → j < k → code 0 (word_at ws i) < code 0 (word_at ws j)
  -- every word found so far comes before this row's word with any later byte behind it
  pub below : (b : ℕ) → ((j : ℕ) → j < c → least j < b) → (i : ℕ) → i < k → row < k → code 0 (word_at ws i) < 256 * code 0 (word_at ws row) + (1 + b)
  pub found : (i j : ℕ) → i < k → j < count → 257 * i + j < 257 * row + c → Led next s least k ws i j (cell t i j)

pub record On (next : Key → ℕ → Key) (s : Key) (shows : Key → ℕ) (least : ℕ → ℕ) (count n k row c done : ℕ) (ks t : List ℕ) : Type 0 where
  pub words : List Word
  pub partly : Partly next s least count k row c (key_at ks n) t words
  pub says : (i : ℕ) → i < done → shown t i ≡ shows (reach next s (word_at words i))

abbrev pub TooMany : (Key → ℕ → Key) → Key → ℕ → Type 0
TooMany next s most = (ws : List Word) × Pairwise next s (most + 1) ws

pub record Complete (next : Key → ℕ → Key) (s : Key) (shows : Key → ℕ) (column : ℕ → ℕ) (count n most k : ℕ) (ks t : List ℕ) : Type 0 where
  pub few : k ≤ most
  pub inside : Inside count k t
  pub explored : Explored next s k (key_at ks n) (leads column t)
  pub shows_keys : (i : ℕ) → i < k → shown t i ≡ shows (key_at ks n i)

abbrev pub IsLawful : {T : Type 0} → Ghosts T → T → Type 0
IsLawful S s = Lawful (S.begin s) (S.next s) (S.good s) (S.width s) (S.column s) (S.least s)

abbrev pub ReadTo : {T : Type 0} → Ghosts T → T → ℕ → Index → ℕ → List ℕ → Type 0
ReadTo S s count x row t = On (S.next s) (S.begin s) (S.shows s) (S.least s) count x.size x.count row 0 row x.keys.now t

abbrev pub RowSays : {T : Type 0} → Ghosts T → T → ℕ → ℕ → Index → List ℕ → Option (Unit {0}) → Type 0
RowSays S s count row x t None = TooMany (S.next s) (S.begin s) x.most
RowSays S s count row x t (Some _) = (row < x.count) × ReadTo S s count x (row + 1) t

abbrev pub Says : (Key → ℕ → Key) → Key → (Key → ℕ) → (ℕ → ℕ) → ℕ → ℕ → ℕ → List ℕ → List ℕ → Option ℕ → Type 0
Says next s shows column count n most ks t None = TooMany next s most
Says next s shows column count n most ks t (Some k) = Complete next s shows column count n most k ks t
