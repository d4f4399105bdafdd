-- What holds of every table whose rows are classes of words, and of every system of keys; nothing here knows what the
-- outputs mean. A contract takes a statement in Type 0, and one over every relation is in Type 1: so the laws are stated of
-- Nerode f, for every output function f, of what a test decides, and of equal keys, for every system; the lemmas behind them
-- are of any relation.
-- Assumes nothing.
--   TableOf column E f firsts t    a row for each class of E, by first words: what it shows is f of its first word, and
--                                  each byte's column leads to the class of that word with the byte behind it
--   Congruence E                   an equality of words that a byte behind both keeps
--   along f u w                    f after each byte of w, where u was read before
--   Apart E ws                     words of which no two are related
--   AtMost n E, MoreThan n E       E has at most n classes; there are n + 1 words of which no two are related
--   Decided g u v                  a relation that is given by its test
--   SameKey next s u v             the system leads u and v to the same key
--   Among next s ks                every key that is reached is one of ks
--   Exact                          a table of f's classes shows f after every text, in any pieces, and its rows are the classes
--   OneTable                       an output function has one table at most: first words and numbers
--   LeastTable                     no table that is sound gives f with fewer rows, however they are numbered and wherever it begins
--   HasTable                       an output function that some sound table gives has its table, with no more rows
--   MinimalTable                   a minimal machine in memory is that table, and the other way round: so it is the only one, and no
--                                  machine that gives f has fewer rows
--   Crowded                        n + 1 words of which no two are in one class are too many for n classes; where a test
--                                  decides, there are either so many words or at most n classes
--   KeyClasses                     the keys of a system part the words into classes: a byte leads from class to class, there are
--                                  as many as keys are reached, and for each n at most n or n + 1 words with different keys
use Rattle.std.specs.Prelude.{◌≡◌, ℕ, ◌+◌, ◌*◌, ◌<◌, ◌≤◌, Bool, true, ◌⊎◌, ◌↔◌, List, [], ◌∷◌, ◌++◌, length}
use Rattle.std.proofs.Math.Option.{some}
use Rattle.machines.specs.Words.{Word, Bytes, joined}
use Rattle.machines.specs.Classes.{Classes, nth}
use Rattle.machines.specs.Machines.{run, runs, traces}
use Rattle.machines.specs.Tables.{SoundTable, next, output, walk}
use Rattle.machines.specs.Columns.{leads, shown}
use Rattle.machines.specs.Minimal.{Nerode, Closed, Minimal}
use Rattle.machines.specs.Systems.{Key, reach, Pairwise, Explored}

pub record TableOf (column : ℕ → ℕ) (E : Word → Word → Type 0) (f : Word → ℕ) (firsts : List Word) (t : List ℕ) : Type 0 where
  pub classes : Classes E firsts
  pub long : length t ≡ 257 * length firsts
  pub outputs : (i : ℕ) (u : Word) → nth firsts i ≡ some u → nth t (257 * i) ≡ some (f u)
  pub goes : (i b : ℕ) (u : Word) → nth firsts i ≡ some u → b < 256
      → (j : ℕ) × (v : Word) × (nth t (257 * i + (1 + column b)) ≡ some j) × (nth firsts j ≡ some v) × E (u ++ b ∷ []) v

pub record Congruence (E : Word → Word → Type 0) : Type 0 where
  pub same : (u : Word) → E u u
  pub back : (u v : Word) → E u v → E v u
  pub on : (u v w : Word) → E u v → E v w → E u w
  pub push : (u v : Word) (b : ℕ) → b < 256 → E u v → E (u ++ b ∷ []) (v ++ b ∷ [])

abbrev pub along : (Word → ℕ) → Word → Word → List ℕ
along f u [] = []
along f u (b ∷ w) = f (u ++ b ∷ []) ∷ along f (u ++ b ∷ []) w

pub record Apart (E : Word → Word → Type 0) (ws : List Word) : Type 0 where
  pub bytes : (i : ℕ) (u : Word) → nth ws i ≡ some u → Bytes u
  pub differ : (i j : ℕ) (u v : Word) → nth ws i ≡ some u → nth ws j ≡ some v → i < j → E u v → ⊥

abbrev pub AtMost : ℕ → (Word → Word → Type 0) → Type 0
AtMost n E = (firsts : List Word) × Classes E firsts × (length firsts ≤ n)

abbrev pub MoreThan : ℕ → (Word → Word → Type 0) → Type 0
MoreThan n E = (ws : List Word) × (length ws ≡ n + 1) × Apart E ws

abbrev pub Decided : (Word → Word → Bool) → Word → Word → Type 0
Decided g u v = g u v ≡ true

abbrev pub SameKey : (Key → ℕ → Key) → Key → Word → Word → Type 0
SameKey next s u v = reach next s u ≡ reach next s v

abbrev pub Among : (Key → ℕ → Key) → Key → List Key → Type 0
Among next s ks = (w : Word) → Bytes w → (i : ℕ) × (nth ks i ≡ some (reach next s w))

pub record Exact : Type 0 where
  pub shows : (f : Word → ℕ) (firsts : List Word) (t : List ℕ) → TableOf (λ b. b) (Nerode f) f firsts t
      → (w : Word) → Bytes w → output t (walk t 0 w) ≡ f w
  pub rows : (f : Word → ℕ) (firsts : List Word) (t : List ℕ) → TableOf (λ b. b) (Nerode f) f firsts t
      → (u v : Word) → Bytes u → Bytes v → (walk t 0 u ≡ walk t 0 v) ↔ Nerode f u v
  pub pieces : (f : Word → ℕ) (firsts : List Word) (t : List ℕ) → TableOf (λ b. b) (Nerode f) f firsts t
      → (ws : List Word) → Bytes (joined ws) → traces (next t) (output t) 0 ws ≡ along f [] (joined ws)
  pub leads : (f : Word → ℕ) (firsts : List Word) (t : List ℕ) → TableOf (λ b. b) (Nerode f) f firsts t
      → (ws : List Word) → Bytes (joined ws) → (u : Word) × (nth firsts (runs (next t) 0 ws) ≡ some u) × Nerode f u (joined ws)
  pub sound : (f : Word → ℕ) (firsts : List Word) (t : List ℕ) → TableOf (λ b. b) (Nerode f) f firsts t → SoundTable (length firsts) t

abbrev pub OneTable : Type 0
OneTable = (f : Word → ℕ) (a b : List Word) (s t : List ℕ)
    → TableOf (λ c. c) (Nerode f) f a s → TableOf (λ c. c) (Nerode f) f b t → (a ≡ b) × (s ≡ t)

abbrev pub LeastTable : Type 0
LeastTable = (f : Word → ℕ) (firsts : List Word) (t : List ℕ) (k i : ℕ) → Classes (Nerode f) firsts → SoundTable k t → i < k
    → ((w : Word) → Bytes w → output t (walk t i w) ≡ f w) → length firsts ≤ k

abbrev pub HasTable : Type 0
HasTable = (f : Word → ℕ) (t : List ℕ) (k i : ℕ) → SoundTable k t → i < k → ((w : Word) → Bytes w → output t (walk t i w) ≡ f w)
    → (firsts : List Word) × (s : List ℕ) × TableOf (λ b. b) (Nerode f) f firsts s × (length firsts ≤ k)

pub record MinimalTable : Type 0 where
  pub table : (f : Word → ℕ) (k : ℕ) (t : List ℕ) → Minimal f k (leads (λ b. b) t) (shown t) → length t ≡ 257 * k
      → (firsts : List Word) × (length firsts ≡ k) × TableOf (λ b. b) (Nerode f) f firsts t
  pub back : (f : Word → ℕ) (firsts : List Word) (t : List ℕ) → TableOf (λ b. b) (Nerode f) f firsts t
      → Minimal f (length firsts) (leads (λ b. b) t) (shown t)
  pub one : (f : Word → ℕ) (j k : ℕ) (s t : List ℕ) → Minimal f j (leads (λ b. b) s) (shown s) → length s ≡ 257 * j
      → Minimal f k (leads (λ b. b) t) (shown t) → length t ≡ 257 * k → (j ≡ k) × (s ≡ t)
  pub least : (f : Word → ℕ) (k : ℕ) (next : ℕ → ℕ → ℕ) (output : ℕ → ℕ) → Minimal f k next output
      → (n i : ℕ) (goes : ℕ → ℕ → ℕ) (shows : ℕ → ℕ) → Closed n goes → i < n → ((w : Word) → Bytes w → shows (run goes i w) ≡ f w) → k ≤ n

pub record Crowded : Type 0 where
  pub nerode : (f : Word → ℕ) (n : ℕ) (ws firsts : List Word) → length ws ≡ n + 1 → Apart (Nerode f) ws
      → Classes (Nerode f) firsts → length firsts ≤ n → ⊥
  pub decided : (g : Word → Word → Bool) → ((u v : Word) → Decided g u v → Decided g v u)
      → ((u v w : Word) → Decided g u v → Decided g v w → Decided g u w) → (n : ℕ) (ws firsts : List Word) → length ws ≡ n + 1
      → Apart (Decided g) ws → Classes (Decided g) firsts → length firsts ≤ n → ⊥
  pub finite : (g : Word → Word → Bool) → Congruence (Decided g) → (n : ℕ) → AtMost n (Decided g) ⊎ MoreThan n (Decided g)

pub record KeyClasses : Type 0 where
  pub push : (next : Key → ℕ → Key) (s : Key) (u v : Word) (b : ℕ) → SameKey next s u v → SameKey next s (u ++ b ∷ []) (v ++ b ∷ [])
  pub classes : (next : Key → ℕ → Key) (s : Key) (k : ℕ) (key : ℕ → Key) (goes : ℕ → ℕ → ℕ) → Explored next s k key goes
      → (firsts : List Word) × Classes (SameKey next s) firsts × (length firsts ≡ k)
  pub few : (next : Key → ℕ → Key) (s : Key) (ks : List Key) → Among next s ks → AtMost (length ks) (SameKey next s)
  pub many : (next : Key → ℕ → Key) (s : Key) (n : ℕ) (ws firsts : List Word) → Pairwise next s (n + 1) ws
      → Classes (SameKey next s) firsts → length firsts ≤ n → ⊥
  pub finite : (next : Key → ℕ → Key) (s : Key) (n : ℕ) → AtMost n (SameKey next s) ⊎ ((ws : List Word) × Pairwise next s (n + 1) ws)
