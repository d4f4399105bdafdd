-- From machines whose rows are numbered by first words to lists of those words: the classes that the rows, a least machine
-- and an explored system's keys part the words into. Assumes nothing.
--   Firsts k go firsts    the first words that lead to the k rows, row by row
use Rattle.std.proofs.Common.{◌≡◌, ℕ, ◌+◌, ◌*◌, ◌<◌, ◌≤◌, ◌↔◌, List, [], ◌∷◌, ◌++◌, length, sym, refl, ap, ◌∙◌, ⊎_elim, arith}
use mathlib.Core.Option.{some}
use Rattle.std.proofs.lemmas.Bool.{cases_eq, cases_lt}
use Rattle.machines.specs.Words.{Word, Bytes}
use Rattle.machines.specs.Classes.{Classes, nth}
use Rattle.machines.specs.Machines.{run}
use Rattle.machines.specs.Columns.{leads, shown}
use Rattle.machines.specs.Minimal.{code, Nerode, Gives, Closed, First, Numbered, Minimal}
use Rattle.machines.specs.Systems.{Key, reach, Explored}
use Rattle.machines.specs.Laws.{TableOf, Congruence, SameKey}
use Rattle.machines.proofs.Cells.{nth_get_or}
use Rattle.machines.proofs.Codes.{less_code, code_less, run_push, bytes_push}
use Rattle.machines.proofs.Places.{nth_at, nth_below, listed}
use Rattle.machines.proofs.Nerode.{nerode_congruence, gives_like, gives_row, run_below}
use Rattle.machines.proofs.Least.{least}
use Rattle.machines.proofs.Unique.{one_table}
use Rattle.machines.proofs.Walking.{MachineOf, at_row, machine_closed, machine_rows, machine_first}

pub record Firsts (k : ℕ) (go : ℕ → ℕ → ℕ) (firsts : List Word) : Type 0 where
  pub long : length firsts ≡ k
  pub first : (i : ℕ) (w : Word) → nth firsts i ≡ some w → First go i w

module _ {k : ℕ} {go : ℕ → ℕ → ℕ} (N : Numbered k go) where
  pub numbered_firsts : (firsts : List Word) × Firsts k go firsts
  numbered_firsts = let l = listed k (First go) N.first in (l.0, record { long = l.1; first = l.2 })

  pub numbered_below : (w : Word) → Bytes w → run go 0 w < k
  numbered_below w ok = run_below k go N.closed 0 w N.some ok

  -- what the rows tell apart has a class for each row
  pub numbered_classes : {E : Word → Word → Type 0} {firsts : List Word} → Firsts k go firsts
      → ((u v : Word) → Bytes u → Bytes v → (run go 0 u ≡ run go 0 v) ↔ E u v) → Classes E firsts
  numbered_classes {E = E} {firsts = firsts} F iff = record {
    bytes = λ i u m. (F.first i u m).bytes;
    order = λ i j u v m n l.
        let b = F.first j v n in
        code_less u v (N.order i j u v l (omega (arith, nth_below firsts j v n, F.long)) (F.first i u m) b) b.bytes;
    first = λ i u v m ok l e.
        let a = F.first i u m in
        omega (arith, less_code 0 l ok, a.least v ok (sym ((iff u v a.bytes ok).1 e) ∙ a.comes));
    differ = λ i j u v m n e.
        let a = F.first i u m in
        let b = F.first j v n in
        sym a.comes ∙ (iff u v a.bytes b.bytes).1 e ∙ b.comes;
    all = λ w ok.
        let n = nth_at firsts (run go 0 w) (omega (arith, numbered_below w ok, F.long)) in
        let a = F.first (run go 0 w) n.0 n.1 in
        (run go 0 w, n.0, n.1, (iff n.0 w a.bytes ok).0 a.comes);
  }

  pub row_classes : {firsts : List Word} → Firsts k go firsts → Classes (λ u v. run go 0 u ≡ run go 0 v) firsts
  row_classes F = numbered_classes F (λ u v a b. ((λ e. e), (λ e. e)))

module _ {f : Word → ℕ} {k : ℕ} {go : ℕ → ℕ → ℕ} {show : ℕ → ℕ} (M : Minimal f k go show) where
  -- two words lead to one row exactly if f does not tell them apart
  pub minimal_rows : (u v : Word) → Bytes u → Bytes v → (run go 0 u ≡ run go 0 v) ↔ Nerode f u v
  minimal_rows u v a b = (gives_row f go show 0 M.gives u v a b, from)
    where
      from : Nerode f u v → run go 0 u ≡ run go 0 v
      from e = ⊎_elim (λ (h : run go 0 u ≡ run go 0 v). h)
          (λ (ne : run go 0 u ≡ run go 0 v → ⊥).
          let w = M.told (run go 0 u) (run go 0 v) (numbered_below M.numbered u a) (numbered_below M.numbered v b) ne in
          absurd (w.2 ((gives_like f go show 0 M.gives u v a b).1 e w.0 w.1)))
          (cases_eq (run go 0 u) (run go 0 v))

  pub minimal_classes : {firsts : List Word} → Firsts k go firsts → Classes (Nerode f) firsts
  minimal_classes F = numbered_classes M.numbered F minimal_rows

  -- no machine that gives f has fewer rows
  pub minimal_least : (goes : ℕ → ℕ → ℕ) (shows : ℕ → ℕ) (n i : ℕ) → Closed n goes → i < n
      → ((w : Word) → Bytes w → shows (run goes i w) ≡ f w) → k ≤ n
  minimal_least goes shows n i closed l gives =
      let F = numbered_firsts M.numbered in
      omega (arith, F.1.long, least goes shows n i (minimal_classes F.1) closed l gives)

-- a machine in memory that is numbered and gives f is the table of what its rows tell apart
pub numbered_table : {E : Word → Word → Type 0} {f : Word → ℕ} {k : ℕ} {column : ℕ → ℕ} {t : List ℕ} {firsts : List Word}
    → ((b : ℕ) → b < 256 → column b < 256) → Numbered k (leads column t) → Gives f (leads column t) (shown t) → length t ≡ 257 * k
    → ((u v : Word) → Bytes u → Bytes v → (run (leads column t) 0 u ≡ run (leads column t) 0 v) ↔ E u v)
    → Firsts k (leads column t) firsts → TableOf column E f firsts t
numbered_table {k = k} {column = column} {t = t} {firsts = firsts} narrow N gives long iff F = record {
  classes = numbered_classes N F iff;
  long = omega (arith, F.long);
  outputs = λ i u m.
      let a = F.first i u m in
      let l : i < k = omega (arith, nth_below firsts i u m, F.long) in
      nth_get_or t (257 * i) (omega arith) ∙ ap some (ap (shown t) (sym a.comes) ∙ gives u a.bytes);
  goes = λ i b u m l.
      let a = F.first i u m in
      let c = narrow b l in
      let h : i < k = omega (arith, nth_below firsts i u m, F.long) in
      let j : leads column t i b < k = N.closed i b h l in
      let n = nth_at firsts (leads column t i b) (omega (arith, F.long)) in
      let v = F.first (leads column t i b) n.0 n.1 in (
        leads column t i b,
        n.0,
        nth_get_or t (257 * i + (1 + column b)) (omega arith),
        n.1,
        (iff (u ++ b ∷ []) n.0 (bytes_push u b a.bytes l) v.bytes).0
            (run_push (leads column t) 0 u b ∙ ap (λ r. leads column t r b) a.comes ∙ sym v.comes),
      );
}

-- so a least machine in memory is the table of its function
pub minimal_table : {f : Word → ℕ} {k : ℕ} {column : ℕ → ℕ} {t : List ℕ} {firsts : List Word} → ((b : ℕ) → b < 256 → column b < 256)
    → Minimal f k (leads column t) (shown t) → length t ≡ 257 * k → Firsts k (leads column t) firsts → TableOf column (Nerode f) f firsts t
minimal_table narrow M long F = numbered_table narrow M.numbered M.gives long (minimal_rows M) F

pub minimal_has_table : {f : Word → ℕ} {k : ℕ} {t : List ℕ} → Minimal f k (leads (λ b. b) t) (shown t) → length t ≡ 257 * k
    → (firsts : List Word) × (length firsts ≡ k) × TableOf (λ b. b) (Nerode f) f firsts t
minimal_has_table M long =
    let F = numbered_firsts M.numbered in (F.0, F.1.long, minimal_table (λ b l. l) M long F.1)

pub minimal_one : {f : Word → ℕ} {j k : ℕ} {s t : List ℕ} → Minimal f j (leads (λ b. b) s) (shown s) → length s ≡ 257 * j
    → Minimal f k (leads (λ b. b) t) (shown t) → length t ≡ 257 * k → (j ≡ k) × (s ≡ t)
minimal_one {f = f} {s = s} {t = t} M p N q =
    let a = minimal_has_table M p in
    let b = minimal_has_table N q in
    let e = one_table (nerode_congruence f).back (nerode_congruence f).on a.0 b.0 s t a.2 b.2 in
    (sym a.1 ∙ ap length e.0 ∙ b.1, e.1)

-- a machine with a row for each class is numbered by first words
module _ {E : Word → Word → Type 0} {f : Word → ℕ} {firsts : List Word} {go : ℕ → ℕ → ℕ} {show : ℕ → ℕ} (R : Congruence E) (M : MachineOf E f firsts go show) where
  machine_least : (i : ℕ) (u : Word) → nth firsts i ≡ some u → First go i u
  machine_least i u m = let o = M.classes.bytes i u m in record {
    bytes = o;
    comes = machine_first R M i u m;
    least = λ v ok e. ⊎_elim
        (λ (l : code 0 v < code 0 u). absurd (M.classes.first i u v m ok (code_less v u l o) ((machine_rows R M u v o ok).0 (machine_first R M i u m ∙ sym e))))
        (λ (h : code 0 u ≤ code 0 v). h)
        (cases_lt (code 0 v) (code 0 u));
  }

  pub machine_firsts : Firsts (length firsts) go firsts
  machine_firsts = record { long = refl; first = machine_least }

  pub machine_numbered : Numbered (length firsts) go
  machine_numbered = record {
    some = let a = at_row R M [] tt in nth_below firsts 0 a.0 a.1;
    closed = machine_closed R M;
    first = λ i l. let n = nth_at firsts i l in (n.0, machine_least i n.0 n.1);
    order = λ i j u v l h a b.
        let m = nth_at firsts i (omega arith) in
        let n = nth_at firsts j h in
        let c = machine_least i m.0 m.1 in
        let d = machine_least j n.0 n.1 in
        let o : code 0 m.0 < code 0 n.0 = less_code 0 (M.classes.order i j m.0 n.0 m.1 n.1 l) c.bytes in
        omega (arith, a.least m.0 c.bytes c.comes, d.least v b.bytes b.comes);
  }

module _ {go : Key → ℕ → Key} {s : Key} {k : ℕ} {key : ℕ → Key} {goes : ℕ → ℕ → ℕ} (X : Explored go s k key goes) where
  pub explored_rows : (u v : Word) → Bytes u → Bytes v → (run goes 0 u ≡ run goes 0 v) ↔ SameKey go s u v
  explored_rows u v a b = (
    (λ e. sym (X.reaches u a) ∙ ap key e ∙ X.reaches v b),
    (λ e. X.once (run goes 0 u) (run goes 0 v) (numbered_below X.numbered u a) (numbered_below X.numbered v b) (X.reaches u a ∙ e ∙ sym (X.reaches v b))),
  )

  -- any relation that is what the keys tell apart
  pub explored_as : {E : Word → Word → Type 0} {firsts : List Word} → Firsts k goes firsts
      → ((u v : Word) → Bytes u → Bytes v → SameKey go s u v ↔ E u v) → Classes E firsts
  explored_as F iff = numbered_classes X.numbered F (λ u v a b.
      ((λ e. (iff u v a b).0 ((explored_rows u v a b).0 e)), (λ e. (explored_rows u v a b).1 ((iff u v a b).1 e))))

  pub explored_classes : {firsts : List Word} → Firsts k goes firsts → Classes (SameKey go s) firsts
  explored_classes F = numbered_classes X.numbered F explored_rows

-- an explored system in memory that shows f of each key is the table of what the keys tell apart
pub explored_table : {next : Key → ℕ → Key} {s : Key} {k : ℕ} {key : ℕ → Key} {column : ℕ → ℕ} {f : Word → ℕ} {t : List ℕ} {firsts : List Word}
    (show : Key → ℕ) → ((b : ℕ) → b < 256 → column b < 256) → Explored next s k key (leads column t) → length t ≡ 257 * k
    → ((i : ℕ) → i < k → shown t i ≡ show (key i)) → ((w : Word) → Bytes w → show (reach next s w) ≡ f w)
    → Firsts k (leads column t) firsts → TableOf column (SameKey next s) f firsts t
explored_table {column = column} {t = t} show narrow X long shows gives F = numbered_table narrow X.numbered
    (λ w ok. shows (run (leads column t) 0 w) (numbered_below X.numbered w ok) ∙ ap show (X.reaches w ok) ∙ gives w ok)
    long (explored_rows X) F
