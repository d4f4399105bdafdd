-- Whatever sound table gives f, f has its table: two rows of a finite machine are told apart by a word or alike, since the
-- pairs of rows that they lead to are few; so f's classes can be found, and their table be filled. Assumes nothing.
use Rattle.std.proofs.Common.{◌≡◌, ℕ, zero, suc, ◌+◌, ◌*◌, ◌/◌, ◌%◌, ◌<◌, ◌⊎◌, List, [], ◌∷◌, ◌++◌, length, get_or, sym, refl, ap, ◌∙◌, subst, inl, inr, ⊎_elim, arith}
use mathlib.Core.Option.{some}
use Rattle.std.proofs.lemmas.Nat.{mul-add-lt, div-mul-add, mod-mul-add}
use Rattle.std.proofs.lemmas.Bool.{cases_eq}
use Rattle.machines.specs.Words.{Word, Bytes}
use Rattle.machines.specs.Classes.{Classes, nth}
use Rattle.machines.specs.Machines.{run}
use Rattle.machines.specs.Tables.{next, output}
use Rattle.machines.specs.Columns.{leads, shown}
use Rattle.machines.specs.Minimal.{Nerode, Like, Told, Closed, Minimal}
use Rattle.machines.specs.Systems.{Key, reach, Pairwise}
use Rattle.machines.specs.Laws.{TableOf, Congruence, AtMost, SameKey, HasTable, MinimalTable}
use Rattle.machines.proofs.Codes.{bytes_push}
use Rattle.machines.proofs.Places.{nth_at, nth_below, nth_one, listed}
use Rattle.machines.proofs.Pigeons.{pigeons}
use Rattle.machines.proofs.Nerode.{nerode_congruence, nerode_here, gives_like, run_below}
use Rattle.machines.proofs.Least.{apart_rows, sound_closed}
use Rattle.machines.proofs.Walking.{table_leads, machine_closed, machine_first, machine_gives}
use Rattle.machines.proofs.Firsts.{machine_numbered, minimal_has_table, minimal_one, minimal_least}
use Rattle.machines.proofs.Finite.{finite}
use Rattle.machines.proofs.Reached.{few_or_pairwise}

-- two rows that read the same text, as a key
abbrev both : (ℕ → ℕ → ℕ) → Key → ℕ → Key
both go [] c = []
both go (a ∷ []) c = []
both go (a ∷ b ∷ rest) c = go a c ∷ go b c ∷ []

both_reach : (go : ℕ → ℕ → ℕ) (a b : ℕ) (w : Word) → reach (both go) (a ∷ b ∷ []) w ≡ run go a w ∷ run go b w ∷ []
both_reach go a b [] = refl
both_reach go a b (c ∷ w) = both_reach go (go a c) (go b c) w

module _ (k : ℕ) (go : ℕ → ℕ → ℕ) (closed : Closed k go) (i j : ℕ) (hi : i < k) (hj : j < k) where
  same_rows : (u v : Word) → SameKey (both go) (i ∷ j ∷ []) u v → (run go i u ≡ run go i v) × (run go j u ≡ run go j v)
  same_rows u v e =
      let d : run go i u ∷ run go j u ∷ [] ≡ run go i v ∷ run go j v ∷ [] = sym (both_reach go i j u) ∙ e ∙ both_reach go i j v in
      (cc, cc)

  -- a pair of rows is one of k * k
  few_pairs : (ws : List Word) → Pairwise (both go) (i ∷ j ∷ []) (k * k + 1) ws → ⊥
  few_pairs ws p = omega (arith, pigeons (k * k) (k * k + 1) At put two)
    where
      at : ℕ → Word
      at m = get_or ws m []

      At : ℕ → ℕ → Type 0
      At m n = (run go i (at m) < k) × (run go j (at m) < k) × (n ≡ run go i (at m) * k + run go j (at m))

      put : (m : ℕ) → m < k * k + 1 → (n : ℕ) × (n < k * k) × At m n
      put m l =
          let a = run_below k go closed i (at m) hi (p.bytes m l) in
          let b = run_below k go closed j (at m) hj (p.bytes m l) in
          (run go i (at m) * k + run go j (at m), mul-add-lt (run go i (at m)) k (run go j (at m)) k a b, (a, b, refl))

      two : (m o n : ℕ) → m < o → o < k * k + 1 → At m n → At o n → ⊥
      two m o n l h (a, b, e) (c, d, f) =
          let q : run go i (at m) * k + run go j (at m) ≡ run go i (at o) * k + run go j (at o) = sym e ∙ f in
          let x : run go i (at m) ≡ run go i (at o) = sym (div-mul-add (run go i (at m)) k (run go j (at m)) b) ∙ ap (λ z. z / k) q ∙ div-mul-add (run go i (at o)) k (run go j (at o)) d in
          let y : run go j (at m) ≡ run go j (at o) = sym (mod-mul-add (run go i (at m)) k (run go j (at m)) b) ∙ ap (λ z. z % k) q ∙ mod-mul-add (run go i (at o)) k (run go j (at o)) d in
          p.differ m o l h (both_reach go i j (at m) ∙ ap (λ z. z ∷ run go j (at m) ∷ []) x ∙ ap (λ z. run go i (at o) ∷ z ∷ []) y ∙ sym (both_reach go i j (at o)))

  module _ (show : ℕ → ℕ) where
    -- one of the words tells the rows apart, or none does
    scan : (ws : List Word) → ((n : ℕ) (u : Word) → nth ws n ≡ some u → Bytes u)
        → Told go show i j ⊎ ((n : ℕ) (u : Word) → nth ws n ≡ some u → show (run go i u) ≡ show (run go j u))
    scan [] fine = inr (λ n u m. absurd (omega (arith, nth_below [] n u m)))
    scan (w ∷ ws) fine = ⊎_elim
        (λ (e : show (run go i w) ≡ show (run go j w)). ⊎_elim (λ told. inl told) (λ rest. inr (all e rest)) (scan ws (λ n. fine (suc n))))
        (λ (ne : show (run go i w) ≡ show (run go j w) → ⊥). inl (w, fine 0 w refl, ne))
        (cases_eq (show (run go i w)) (show (run go j w)))
      where
        all : show (run go i w) ≡ show (run go j w) → ((n : ℕ) (u : Word) → nth ws n ≡ some u → show (run go i u) ≡ show (run go j u))
            → (n : ℕ) (u : Word) → nth (w ∷ ws) n ≡ some u → show (run go i u) ≡ show (run go j u)
        all e rest zero u m = let same : w ≡ u = cc in rw (← same) e
        all e rest (suc n) u m = rest n u m

    pub told_or_like : Told go show i j ⊎ Like go show i j
    told_or_like = ⊎_elim
        (λ (firsts, cs, few). ⊎_elim (λ told. inl told) (λ same. inr (like firsts cs same)) (scan firsts cs.bytes))
        (λ (ws, p). absurd (few_pairs ws p))
        (few_or_pairwise (both go) (i ∷ j ∷ []) (k * k))
      where
        like : (firsts : List Word) → Classes (SameKey (both go) (i ∷ j ∷ [])) firsts
            → ((n : ℕ) (u : Word) → nth firsts n ≡ some u → show (run go i u) ≡ show (run go j u)) → Like go show i j
        like firsts cs same x ok =
            let h = cs.all x ok in
            let r = same_rows h.1 x h.3 in
            ap show (sym r.0) ∙ same h.0 h.1 h.2 ∙ ap show r.1

-- classes fill a table
module _ {E : Word → Word → Type 0} (f : Word → ℕ) {firsts : List Word} (back : (u v : Word) → E u v → E v u) (cs : Classes E firsts) where
  Cell : ℕ → ℕ → Type 0
  Cell p x = (i : ℕ) (u : Word) → nth firsts i ≡ some u
      → (p ≡ 257 * i → x ≡ f u) × ((b : ℕ) → b < 256 → p ≡ 257 * i + (1 + b) → (v : Word) × (nth firsts x ≡ some v) × E (u ++ b ∷ []) v)

  cell : (n r p : ℕ) → p ≡ 257 * n + r → r < 257 → n < length firsts → (x : ℕ) × Cell p x
  unfolding Cell
  cell n zero p e l h =
      let w = nth_at firsts n h in (
        f w.0,
        λ i u m. (
          (λ d. let s : n ≡ i = omega arith in ap f (nth_one firsts n w.0 u w.1 (ap (nth firsts) s ∙ m))),
          (λ b c d. absurd (omega arith)),
        ),
      )
  cell n (suc a) p e l h =
      let w = nth_at firsts n h in
      let g = cs.all (w.0 ++ a ∷ []) (bytes_push w.0 a (cs.bytes n w.0 w.1) (omega arith)) in (
        g.0,
        λ i u m. (
          (λ d. absurd (omega arith)),
          (λ b c d.
              let s : n ≡ i = omega arith in
              let q : a ≡ b = omega arith in
              let o : w.0 ≡ u = nth_one firsts n w.0 u w.1 (ap (nth firsts) s ∙ m) in
              let z : w.0 ++ a ∷ [] ≡ u ++ b ∷ [] = cc in
              (g.1, g.2, subst (λ y. E y g.1) z (back g.1 (w.0 ++ a ∷ []) g.3))),
        ),
      )

  filled : (t : List ℕ) → length t ≡ 257 * length firsts → ((p x : ℕ) → nth t p ≡ some x → Cell p x) → TableOf (λ b. b) E f firsts t
  unfolding Cell
  filled t long at = record {
    classes = cs;
    long = long;
    outputs = λ i u m.
        let h : i < length firsts = nth_below firsts i u m in
        let x = nth_at t (257 * i) (omega arith) in
        x.1 ∙ ap some ((at (257 * i) x.0 x.1 i u m).0 refl);
    goes = λ i b u m c.
        let h : i < length firsts = nth_below firsts i u m in
        let x = nth_at t (257 * i + (1 + b)) (omega arith) in
        let g = (at (257 * i + (1 + b)) x.0 x.1 i u m).1 b c refl in
        (x.0, g.0, x.1, g.1, g.2);
  }

  pub classes_table : (t : List ℕ) × TableOf (λ b. b) E f firsts t
  classes_table =
      let l = listed (257 * length firsts) Cell (λ p h. cell (p / 257) (p % 257) p (omega arith) (omega arith) (omega arith)) in
      (l.0, filled l.0 l.1 l.2)

-- a machine's f has at most as many classes as the machine has rows
pub few_classes_of : (f : Word → ℕ) (go : ℕ → ℕ → ℕ) (show : ℕ → ℕ) (k i : ℕ) → Closed k go → i < k
    → ((w : Word) → Bytes w → show (run go i w) ≡ f w) → AtMost k (Nerode f)
few_classes_of f go show k i closed l gives = ⊎_elim
    (λ few. few)
    (λ (ws, long, apart). absurd (omega (arith, apart_rows go show k i apart closed l gives)))
    (finite (nerode_congruence f) decide k)
  where
    decide : (u v : Word) → Bytes u → Bytes v → Nerode f u v ⊎ (Nerode f u v → ⊥)
    decide u v a b = ⊎_elim
        (λ (x, ok, ne). inr (λ e. ne ((gives_like f go show i gives u v a b).1 e x ok)))
        (λ like. inl ((gives_like f go show i gives u v a b).0 like))
        (told_or_like k go closed (run go i u) (run go i v) (run_below k go closed i u l a) (run_below k go closed i v l b) show)

pub has_table_stands_lem : HasTable
has_table_stands_lem f t k i s l gives =
    let c = few_classes_of f (next t) (output t) k i (sound_closed k t s) l gives in
    let r = classes_table f (nerode_congruence f).back c.1 in
    (c.0, r.0, r.1, c.2)

-- the table of f tells its rows apart
pub table_minimal : (f : Word → ℕ) (firsts : List Word) (t : List ℕ) → TableOf (λ b. b) (Nerode f) f firsts t
    → Minimal f (length firsts) (leads (λ b. b) t) (shown t)
table_minimal f firsts t T = record { numbered = machine_numbered R (table_leads T); gives = gives; told = told }
  where
    R : Congruence (Nerode f)
    R = nerode_congruence f

    go : ℕ → ℕ → ℕ
    go = leads (λ b. b) t

    gives : (w : Word) → Bytes w → shown t (run go 0 w) ≡ f w
    gives = machine_gives R (table_leads T) (nerode_here f)

    told : (i j : ℕ) → i < length firsts → j < length firsts → (i ≡ j → ⊥) → Told go (shown t) i j
    told i j h l ne =
        let u = nth_at firsts i h in
        let v = nth_at firsts j l in
        let c = T.classes in
        ⊎_elim
        (λ told. told)
        (λ like. absurd (ne (c.differ i j u.0 v.0 u.1 v.1
        ((gives_like f go (shown t) 0 gives u.0 v.0 (c.bytes i u.0 u.1) (c.bytes j v.0 v.1)).0
        (subst (λ a. Like go (shown t) a (run go 0 v.0)) (sym (machine_first R (table_leads T) i u.0 u.1))
        (subst (λ b. Like go (shown t) i b) (sym (machine_first R (table_leads T) j v.0 v.1)) like))))))
        (told_or_like (length firsts) go (machine_closed R (table_leads T)) i j h l (shown t))

pub minimal_table_stands_lem : MinimalTable
minimal_table_stands_lem = record {
  table = λ f k t. minimal_has_table;
  back = table_minimal;
  one = λ f j k s t. minimal_one;
  least = λ f k next output M n i goes shows. minimal_least M goes shows n i;
}
