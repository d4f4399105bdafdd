-- What leaves finitely many things has its finished table, with a dead row or without; and a system of bounded keys that shows what
-- a pattern matches tells finitely many classes apart and leaves finitely many things. Assumes nothing.
--   Works p       both: what the step at p's top tells apart, and what p leaves
use Rattle.std.proofs.Common.{◌≡◌, ℕ, zero, suc, ◌<◌, ◌≤◌, ◌⊎◌, ◌↔◌, List, length, Some, None, Option, refl, ap, ◌∙◌, inl, inr, ⊎_elim, arith}
use Rattle.std.proofs.lemmas.Bool.{cases_eq}
use Rattle.machines.specs.Words.{Word, Bytes}
use Rattle.machines.specs.Classes.{Classes}
use Rattle.machines.specs.Columns.{Columns, shown, leads}
use Rattle.machines.specs.Minimal.{Nerode, Minimal}
use Rattle.machines.specs.Dead.{Dead}
use Rattle.machines.specs.Systems.{Key, reach}
use Rattle.machines.specs.Laws.{SameKey, Among, AtMost}
use Rattle.machines.proofs.Nerode.{nerode_congruence, key_congruence}
use Rattle.machines.proofs.Relating.{classes_related}
use Rattle.machines.proofs.Walking.{table_leads, machine_closed, machine_gives}
use Rattle.machines.proofs.Firsts.{machine_numbered}
use Rattle.machines.proofs.Reached.{few_keys}
use Rattle.machines.proofs.Existing.{classes_table, few_classes_of, table_minimal}
use Rattle.machines.proofs.Dead.{dead_silent, live_or_dead}
use Rattle.refinement.specs.DeadRows.{IsDead, DeadRow}
use Rattle.refinement.proofs.DeadRows.{NoneDead, dead_row_lem}
use Rattle.patterns.specs.Patterns.{Pattern, matches}
use Rattle.patterns.specs.Residuals.{Of, SameResidual}
use Rattle.patterns.specs.Searching.{bit}
use Rattle.parts.specs.Steps.{Finished}
use Rattle.parts.specs.Told.{ToldApart, Left}
use Rattle.parts.proofs.Keyed.{Keyed, residual_nerode, finished, keyed_told}
use Rattle.parts.proofs.Bounded.{Within, bounded_among}

pub nerode_residual : (p : Pattern) (u v : Word) → Nerode (λ w. bit (matches p w)) u v ↔ SameResidual (Of p) u v
nerode_residual p u v = let n = residual_nerode p u v in (n.1, n.0)

-- finitely many keys leave finitely many things: the classes of the keys are a machine's rows
module _ (p : Pattern) {next : Key → ℕ → Key} {s : Key} (shows : Key → ℕ) (says : (w : Word) → Bytes w → shows (reach next s w) ≡ bit (matches p w)) where
  key_machine : (firsts : List Word) → Classes (SameKey next s) firsts → AtMost (length firsts) (Nerode (λ w. bit (matches p w)))
  key_machine firsts cs =
      let R = key_congruence next s in
      let r = classes_table (λ w. shows (reach next s w)) R.back cs in
      let M = table_leads r.1 in
      few_classes_of (λ w. bit (matches p w)) (leads (λ b. b) r.0) (shown r.0) (length firsts) 0 (machine_closed R M) (machine_numbered R M).some
      (λ w ok. machine_gives R M (λ u v e. ap shows e) w ok ∙ says w ok)

  pub keyed_left : (ks : List Key) → Among next s ks → Left p
  keyed_left ks among =
      let f = few_keys next s ks among in
      let a = key_machine f.0 f.1 in
      (a.0, classes_related (λ u v _ _. nerode_residual p u v) a.1)

pub record Works (p : Pattern) : Type 0 where
  pub told : ToldApart p
  pub left : Left p

pub bounded_works : {p : Pattern} {next : Key → ℕ → Key} {s : Key} (shows : Key → ℕ) (B n : ℕ) → Keyed p next s
    → ((w : Word) → Bytes w → shows (reach next s w) ≡ bit (matches p w)) → ((w : Word) → Bytes w → Within B n (reach next s w)) → Works p
bounded_works {p} {next = next} {s = s} shows B n K says within = let a = bounded_among next s B n within in record {
  told = keyed_told K a.0 a.1;
  left = keyed_left p shows says a.0 a.1;
}

-- each byte a column of its own
pub each_byte : Columns 256 (λ b. b) (λ b. b)
each_byte = record {
  few = omega arith;
  within = λ b l. l;
  byte = λ j l. l;
  back = λ j l. refl;
  low = λ b l. omega arith;
  up = λ i j l m. l;
}

pub left_finished : (p : Pattern) → Left p → (k : ℕ) × (t : List ℕ) × Finished (λ b. b) p k t
left_finished p (firsts, cs) =
    let f : Word → ℕ = λ w. bit (matches p w) in
    let r = classes_table f (nerode_congruence f).back (classes_related (λ u v _ _. residual_nerode p u v) cs) in
    (length firsts, r.0, finished (λ b. b) p (length firsts) r.0 (table_minimal f firsts r.0 r.1))

-- the least dead row, if there is one
module _ {f : Word → ℕ} {k : ℕ} {t : List ℕ} (M : Minimal f k (leads (λ b. b) t) (shown t)) where
  is_dead_lem : (r : ℕ) → r < k → IsDead 256 t r ⊎ (IsDead 256 t r → ⊥)
  is_dead_lem r l = ⊎_elim
      (λ (x, ok, ne). inr (λ D. ne (dead_silent (by_bytes D) x ok)))
      (λ D. inl (record { shows = D.silent; stays = D.stays }))
      (live_or_dead M r l)
    where
      by_bytes : IsDead 256 t r → Dead (leads (λ b. b) t) (shown t) r
      by_bytes D = record { silent = D.shows; stays = D.stays }

  least_dead : (n : ℕ) → n ≤ k → ((d : ℕ) × (d < n) × IsDead 256 t d × NoneDead 256 t d) ⊎ NoneDead 256 t n
  least_dead zero l = inr (λ r h D. omega arith)
  least_dead (suc n) l = ⊎_elim
      (λ (d, h, D, none). inl (d, omega arith, D, none))
      (λ (none : NoneDead 256 t n). ⊎_elim
      (λ (D : IsDead 256 t n). inl (n, omega arith, D, none))
      (λ (ne : IsDead 256 t n → ⊥). inr (λ r h D. ⊎_elim (λ (e : r ≡ n). ne (rw e at D)) (λ (e : r ≡ n → ⊥). none r (omega arith) D) (cases_eq r n)))
      (is_dead_lem n (omega arith)))
      (least_dead n (omega arith))

  pub has_dead_row : (d : Option ℕ) × DeadRow 256 k t d
  has_dead_row = ⊎_elim
      (λ (d, h, D, none). (Some d, dead_row_lem 256 k t (Some d) (h, D, none)))
      (λ (none : NoneDead 256 t k). (None, dead_row_lem 256 k t None none))
      (least_dead k (omega arith))
