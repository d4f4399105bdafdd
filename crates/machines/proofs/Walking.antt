-- Where a machine whose rows are classes leads, and what it shows: f, after every text and in any pieces. Assumes nothing.
use Rattle.std.proofs.Common.{◌≡◌, ℕ, zero, suc, ◌+◌, ◌*◌, ◌<◌, ◌↔◌, List, [], ◌∷◌, ◌++◌, length, sym, refl, ap, ◌∙◌, subst, ⊎_elim, arith}
use mathlib.Core.Option.{some}
use Rattle.std.proofs.lemmas.List.{append_assoc, append-nil}
use Rattle.machines.specs.Words.{Word, Bytes, joined, Less, shorter}
use Rattle.machines.specs.Classes.{Classes, nth}
use Rattle.machines.specs.Machines.{run, trace, traces}
use Rattle.machines.specs.Tables.{SoundTable, or0, next, output}
use Rattle.machines.specs.Columns.{leads, shown}
use Rattle.machines.specs.Minimal.{Nerode, Gives, Closed}
use Rattle.machines.specs.Laws.{TableOf, Congruence, along, Exact}
use Rattle.machines.proofs.Cells.{or0_nth}
use Rattle.machines.proofs.Shortlex.{Lex, less_before}
use Rattle.machines.proofs.Codes.{bytes_push, run_push}
use Rattle.machines.proofs.Pieces.{runs_joined, traces_joined}
use Rattle.machines.proofs.Places.{nth_at, nth_below, nth_one}
use Rattle.machines.proofs.Nerode.{nerode_congruence, nerode_here, run_same}

-- a machine that gives f shows f of every front
module _ (f : Word → ℕ) (go : ℕ → ℕ → ℕ) (show : ℕ → ℕ) (gives : Gives f go show) where
  pub gives_along : (u w : Word) → Bytes u → Bytes w → trace go show (run go 0 u) w ≡ along f u w
  gives_along u [] a ok = refl
  gives_along u (b ∷ w) a (l, ok) =
      let o : Bytes (u ++ b ∷ []) = bytes_push u b a l in
      let row : go (run go 0 u) b ≡ run go 0 (u ++ b ∷ []) = sym (run_push go 0 u b) in
      let head : show (go (run go 0 u) b) ≡ f (u ++ b ∷ []) = ap show row ∙ gives (u ++ b ∷ []) o in
      let tail : trace go show (go (run go 0 u) b) w ≡ along f (u ++ b ∷ []) w = ap (λ i. trace go show i w) row ∙ gives_along (u ++ b ∷ []) w o ok in
      cc

  pub gives_pieces : (ws : List Word) → Bytes (joined ws) → traces go show 0 ws ≡ along f [] (joined ws)
  gives_pieces ws ok = traces_joined go show 0 ws ∙ gives_along [] (joined ws) tt ok

-- a table in memory gives f, read in either way
pub leads_gives : (f : Word → ℕ) (t : List ℕ) → Gives f (leads (λ b. b) t) (shown t) → Gives f (next t) (output t)
leads_gives f t gives w ok =
    or0_nth t (257 * run (next t) 0 w)
    ∙ ap (shown t) (run_same (next t) (leads (λ b. b) t) (λ i b. or0_nth t (257 * i + (1 + b))) 0 w)
    ∙ gives w ok

-- row i is that of w's class
abbrev pub At : (Word → Word → Type 0) → List Word → ℕ → Word → Type 0
At E firsts i w = (u : Word) × (nth firsts i ≡ some u) × E u w

-- a machine with a row for each class
pub record MachineOf (E : Word → Word → Type 0) (f : Word → ℕ) (firsts : List Word) (go : ℕ → ℕ → ℕ) (show : ℕ → ℕ) : Type 0 where
  pub classes : Classes E firsts
  pub outputs : (i : ℕ) (u : Word) → nth firsts i ≡ some u → show i ≡ f u
  pub goes : (i b : ℕ) (u : Word) → nth firsts i ≡ some u → b < 256 → (v : Word) × (nth firsts (go i b) ≡ some v) × E (u ++ b ∷ []) v

nothing_before : (u : Word) → Less u [] → ⊥
nothing_before u l = ⊎_elim (λ s. omega arith) (λ b. lex_nothing u b.1) (less_before l)
  where
    lex_nothing : (u : Word) → Lex u [] → ⊥
    lex_nothing [] b = b
    lex_nothing (x ∷ u) b = b

module _ {E : Word → Word → Type 0} {f : Word → ℕ} {firsts : List Word} {go : ℕ → ℕ → ℕ} {show : ℕ → ℕ} (R : Congruence E) (M : MachineOf E f firsts go show) where
  pub machine_closed : Closed (length firsts) go
  machine_closed i b l m = let n = nth_at firsts i l in let g = M.goes i b n.0 n.1 m in nth_below firsts (go i b) g.0 g.1

  at_step : (i b : ℕ) (w : Word) → b < 256 → At E firsts i w → At E firsts (go i b) (w ++ b ∷ [])
  at_step i b w l (u, m, e) =
      let g = M.goes i b u m l in
      (g.0, g.1, R.on g.0 (u ++ b ∷ []) (w ++ b ∷ []) (R.back (u ++ b ∷ []) g.0 g.2) (R.push u w b l e))

  at_run : (i : ℕ) (x w : Word) → Bytes w → At E firsts i x → At E firsts (run go i w) (x ++ w)
  at_run i x [] ok a = rw append-nil a
  at_run i x (b ∷ w) (l, ok) a = rw append_assoc at (at_run (go i b) (x ++ b ∷ []) w ok (at_step i b x l a))

  at_start : At E firsts 0 []
  at_start = start h.0 h.1 h.2 h.3
    where
      h : (i : ℕ) × (u : Word) × (nth firsts i ≡ some u) × E u []
      h = M.classes.all [] tt

      start : (i : ℕ) (u : Word) → nth firsts i ≡ some u → E u [] → At E firsts 0 []
      start i (x ∷ u) m e = absurd (M.classes.first i (x ∷ u) [] m tt (shorter (omega arith)) e)
      start zero [] m e = ([], m, e)
      start (suc i) [] m e =
          let n = nth_at firsts 0 (omega (arith, nth_below firsts (suc i) [] m)) in
          absurd (nothing_before n.0 (M.classes.order 0 (suc i) n.0 [] n.1 m (omega arith)))

  pub at_row : (w : Word) → Bytes w → At E firsts (run go 0 w) w
  at_row w ok = at_run 0 [] w ok at_start

  -- the row says the class
  at_one : (i j : ℕ) (u v : Word) → At E firsts i u → At E firsts j v → E u v → i ≡ j
  at_one i j u v (x, m, e) (y, n, d) h = M.classes.differ i j x y m n (R.on x u y e (R.on u v y h (R.back y v d)))

  at_same : (i : ℕ) (u v : Word) → At E firsts i u → At E firsts i v → E u v
  at_same i u v (x, m, e) (y, n, d) = R.on u x v (R.back x u e) (rw (nth_one firsts i y x n m) at d)

  pub machine_rows : (u v : Word) → Bytes u → Bytes v → (run go 0 u ≡ run go 0 v) ↔ E u v
  machine_rows u v a b = (
    (λ e. at_same (run go 0 u) u v (at_row u a) (subst (λ i. At E firsts i v) (sym e) (at_row v b))),
    (λ e. at_one (run go 0 u) (run go 0 v) u v (at_row u a) (at_row v b) e),
  )

  pub machine_first : (i : ℕ) (u : Word) → nth firsts i ≡ some u → run go 0 u ≡ i
  machine_first i u m = at_one (run go 0 u) i u u (at_row u (M.classes.bytes i u m)) (u, m, R.same u) (R.same u)

  pub machine_gives : ((u v : Word) → E u v → f u ≡ f v) → Gives f go show
  machine_gives here w ok = let a = at_row w ok in M.outputs (run go 0 w) a.0 a.1 ∙ here a.0 w a.2

-- a table is such a machine, as it is read in either way
module _ {column : ℕ → ℕ} {E : Word → Word → Type 0} {f : Word → ℕ} {firsts : List Word} {t : List ℕ} (T : TableOf column E f firsts t) where
  pub table_leads : MachineOf E f firsts (leads column t) (shown t)
  table_leads = record {
    classes = T.classes;
    outputs = λ i u m. sym (or0_nth t (257 * i)) ∙ ap or0 (T.outputs i u m);
    goes = λ i b u m l. let g = T.goes i b u m l in
        (g.1, ap (nth firsts) (sym (or0_nth t (257 * i + (1 + column b))) ∙ ap or0 g.2) ∙ g.3, g.4);
  }

module _ {E : Word → Word → Type 0} {f : Word → ℕ} {firsts : List Word} {t : List ℕ} (T : TableOf (λ b. b) E f firsts t) where
  pub table_machine : MachineOf E f firsts (next t) (output t)
  table_machine = record {
    classes = T.classes;
    outputs = λ i u m. ap or0 (T.outputs i u m);
    goes = λ i b u m l. let g = T.goes i b u m l in (g.1, ap (λ o. nth firsts (or0 o)) g.2 ∙ g.3, g.4);
  }

  pub table_sound : SoundTable (length firsts) t
  table_sound = record {
    long = T.long;
    goes = λ i b j l m e.
        let n = nth_at firsts i l in
        let g = T.goes i b n.0 n.1 m in
        rw (nth_one t (257 * i + (1 + b)) j g.0 e g.2) (nth_below firsts g.0 g.1 g.3);
  }

pub table_gives : (f : Word → ℕ) (firsts : List Word) (t : List ℕ) → TableOf (λ b. b) (Nerode f) f firsts t → Gives f (next t) (output t)
table_gives f firsts t T = machine_gives (nerode_congruence f) (table_machine T) (nerode_here f)

pub exact_stands_lem : Exact
exact_stands_lem = record {
  shows = table_gives;
  rows = λ f firsts t T. machine_rows (nerode_congruence f) (table_machine T);
  pieces = λ f firsts t T. gives_pieces f (next t) (output t) (table_gives f firsts t T);
  leads = λ f firsts t T ws ok. subst (λ i. At (Nerode f) firsts i (joined ws)) (sym (runs_joined (next t) 0 ws)) (at_row (nerode_congruence f) (table_machine T) (joined ws) ok);
  sound = λ f firsts t T. table_sound T;
}
