-- Finished tables on the stack: one that is kept while the words behind it are written, and one in those words. Assumes nothing.
--   SameRows k t u               the first k rows of u are those of t
--   DonePart column c p n a t    p fits into n, and the part a is its finished table
use Rattle.std.proofs.Common.{◌≡◌, ℕ, ◌+◌, ◌-◌, ◌*◌, ◌<◌, ◌≤◌, List, ◌++◌, length, get_or, take, drop, sym, ap, ◌∙◌, subst, arith, length-append, length-drop}
use Rattle.std.proofs.lemmas.List.{append-nil, drop_at, drop_all, length-take-le, get_or_append_left, get_or-take}
use borrow.Rule.Slice.PartMut.{put_mid}
use Rattle.machines.specs.Inside.{Inside}
use Rattle.machines.proofs.Likewise.{minimal_like}
use Rattle.patterns.specs.Patterns.{Pattern}
use Rattle.parts.specs.declared.part.Part.{Part}
use Rattle.parts.specs.Combining.{part_words}
use Rattle.parts.specs.Steps.{Finished}
use Rattle.parts.proofs.Keyed.{finished}
use Rattle.making.specs.Working.{Done}

pub record SameRows (k : ℕ) (t u : List ℕ) : Type 0 where
  pub same : (i : ℕ) → i < 257 * k → get_or u i 0 ≡ get_or t i 0
  pub long : 257 * k ≤ length u

inside_same : {c k : ℕ} {t u : List ℕ} → SameRows k t u → Inside c k t → Inside c k u
inside_same {k = k} S I = record {
  few = I.few;
  some = I.some;
  long = S.long;
  cells = λ i l j m. subst (λ z. z < k) (sym (S.same (257 * i + (1 + j)) (omega (arith, I.few)))) (I.cells i l j m);
}

finished_same : {column : ℕ → ℕ} {p : Pattern} {k : ℕ} {t u : List ℕ} → ((b : ℕ) → b < 256 → column b < 256) → SameRows k t u → Finished column p k t → Finished column p k u
finished_same {column} {p} {k} {t} {u} narrow S F =
    finished column p k u (minimal_like (λ i b l m. let h = narrow b m in S.same (257 * i + (1 + column b)) (omega arith)) (λ i l. S.same (257 * i) (omega arith)) F.minimal)

done_same : {column : ℕ → ℕ} {c : ℕ} {p : Pattern} {n k : ℕ} {t u : List ℕ} → ((b : ℕ) → b < 256 → column b < 256) → SameRows k t u → Done column c p n k t → Done column c p n k u
done_same narrow S D = record { fits = D.fits; few = D.few; inside = inside_same S D.inside; finished = finished_same narrow S D.finished }

-- the words behind a place are written anew
kept_rows : {n k : ℕ} (at : ℕ) (t u : List ℕ) → k ≤ n → 257 * n ≤ at → at ≤ length t → SameRows k t (put_mid at (length t - at) t u)
kept_rows {n} {k} at t u few room within = record {
  same = λ i l. get_or_append_left (take at t) _ 0 i (omega (arith, length-take-le at t within)) ∙ get_or-take at t i 0 (omega arith);
  long = omega (arith, length-append (take at t) (u ++ drop (length t - at) (drop at t)), length-take-le at t within);
}

written_rows : (at : ℕ) (t u : List ℕ) → at ≤ length t → drop at (put_mid at (length t - at) t u) ≡ u
written_rows at t u within =
    drop_at (take at t) (u ++ drop (length t - at) (drop at t)) at (length-take-le at t within)
    ∙ ap (λ r. u ++ r) (drop_all (length t - at) (drop at t) (omega (arith, length-drop at t)))
    ∙ append-nil u

abbrev pub DonePart : (ℕ → ℕ) → ℕ → Pattern → ℕ → Part → List ℕ → Type 0
DonePart column c p n a t = Done column c p n a.rows (part_words a t)

pub kept_part : {column : ℕ → ℕ} {c : ℕ} {p : Pattern} {n k : ℕ} (at : ℕ) (t u : List ℕ) → ((b : ℕ) → b < 256 → column b < 256) → 257 * n ≤ at → at ≤ length t → Done column c p n k t
    → Done column c p n k (put_mid at (length t - at) t u)
kept_part at t u narrow room within D = done_same narrow (kept_rows at t u D.few room within) D

pub written_part : {column : ℕ → ℕ} {c : ℕ} {p : Pattern} {n k : ℕ} (at : ℕ) (t u : List ℕ) → at ≤ length t → Done column c p n k u → Done column c p n k (drop at (put_mid at (length t - at) t u))
written_part {column} {c} {p} {n} {k} at t u within D = subst (Done column c p n k) (sym (written_rows at t u within)) D
