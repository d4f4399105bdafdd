-- No machine gives f with fewer rows than f has classes. Assumes nothing.
use Rattle.std.proofs.Common.{◌≡◌, ℕ, ◌+◌, ◌*◌, ◌<◌, ◌≤◌, List, length, sym, refl, ◌∙◌, subst}
use mathlib.Core.Option.{some}
use Rattle.machines.specs.Words.{Word, Bytes}
use Rattle.machines.specs.Classes.{Classes, nth}
use Rattle.machines.specs.Machines.{run}
use Rattle.machines.specs.Tables.{SoundTable, next, output}
use Rattle.machines.specs.Minimal.{Nerode, Closed}
use Rattle.machines.specs.Laws.{Apart, LeastTable}
use Rattle.machines.proofs.Cells.{or0_nth, sound_inside}
use Rattle.machines.proofs.Places.{nth_at}
use Rattle.machines.proofs.Pigeons.{pigeons, classes_apart}
use Rattle.machines.proofs.Nerode.{gives_row, run_below}

-- words that lead to one row are not told apart, so words that f tells apart are at most as many as the rows
pub apart_rows : {f : Word → ℕ} {ws : List Word} (go : ℕ → ℕ → ℕ) (show : ℕ → ℕ) (k i : ℕ) → Apart (Nerode f) ws → Closed k go → i < k
    → ((w : Word) → Bytes w → show (run go i w) ≡ f w) → length ws ≤ k
apart_rows {f = f} {ws = ws} go show k i apart closed l gives = pigeons k (length ws) At put two
  where
    At : ℕ → ℕ → Type 0
    At a j = (u : Word) × (nth ws a ≡ some u) × (run go i u ≡ j)

    put : (a : ℕ) → a < length ws → (j : ℕ) × (j < k) × At a j
    put a h = let n = nth_at ws a h in (run go i n.0, run_below k go closed i n.0 l (apart.bytes a n.0 n.1), (n.0, n.1, refl))

    two : (a b j : ℕ) → a < b → b < length ws → At a j → At b j → ⊥
    two a b j h g (u, m, e) (v, n, d) =
        apart.differ a b u v m n h (gives_row f go show i gives u v (apart.bytes a u m) (apart.bytes b v n) (e ∙ sym d))

pub least : {f : Word → ℕ} {firsts : List Word} (go : ℕ → ℕ → ℕ) (show : ℕ → ℕ) (k i : ℕ) → Classes (Nerode f) firsts → Closed k go → i < k
    → ((w : Word) → Bytes w → show (run go i w) ≡ f w) → length firsts ≤ k
least go show k i cs = apart_rows go show k i (classes_apart cs)

pub sound_closed : (k : ℕ) (t : List ℕ) → SoundTable k t → Closed k (next t)
sound_closed k t s i b l m = subst (λ j. j < k) (sym (or0_nth t (257 * i + (1 + b)))) (sound_inside k t s i l b m)

pub least_table_stands_lem : LeastTable
least_table_stands_lem f firsts t k i cs s = least (next t) (output t) k i cs (sound_closed k t s)
