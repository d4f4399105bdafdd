-- Not: the same rows, each output turned. Assumes nothing.
use Rattle.std.proofs.Common.{◌≡◌, ℕ, ◌<◌, Bool, true, false, cond, not, eqb, List, ◌++◌, sym, refl, ap, ◌∙◌, arith}
use Rattle.machines.specs.Words.{Word, Bytes}
use Rattle.machines.specs.Machines.{run}
use Rattle.machines.specs.Columns.{shown, leads}
use Rattle.machines.specs.Minimal.{Minimal}
use Rattle.machines.proofs.Nerode.{gives_after, run_below}
use Rattle.machines.proofs.Likewise.{run_like, numbered_like}
use Rattle.patterns.specs.Patterns.{Pattern, compl, matches}
use Rattle.patterns.specs.Searching.{bit}
use Rattle.parts.specs.Steps.{Finished, Turned}
use Rattle.parts.proofs.Keyed.{finished}

abbrev turn : ℕ → ℕ
turn x = cond (eqb x 0) 1 0

turn_bit : (b : Bool) → turn (bit b) ≡ bit (not b)
turn_bit true = refl
turn_bit false = refl

turn_same : (a b : Bool) → turn (bit a) ≡ turn (bit b) → bit a ≡ bit b
turn_same true true e = refl
turn_same false false e = refl
turn_same true false e = absurd (omega arith)
turn_same false true e = absurd (omega arith)

pub compl_finished : {column : ℕ → ℕ} {p : Pattern} {k : ℕ} {t u : List ℕ} → ((b : ℕ) → b < 256 → column b < 256) → Finished column p k t → Turned k t u → Finished column (compl p) k u
compl_finished {column} {p} {k} {t} {u} narrow F T = finished column (compl p) k u (record {
  numbered = numbered_like same M.numbered;
  gives = λ w ok. shows w 0 M.numbered.some ok ∙ ap turn (M.gives w ok) ∙ turn_bit (matches p w);
  told = λ i j l m ne. let w = M.told i j l m ne in
      (w.0, w.1, λ e. w.2 (one i j l m w.0 w.1 (sym (shows w.0 i l w.1) ∙ e ∙ shows w.0 j m w.1)));
})
  where
    M : Minimal (λ w. bit (matches p w)) k (leads column t) (shown t)
    M = F.minimal

    same : (i b : ℕ) → i < k → b < 256 → leads column u i b ≡ leads column t i b
    same i b l m = T.on i (column b) (narrow b m)

    shows : (w : Word) (i : ℕ) → i < k → Bytes w → shown u (run (leads column u) i w) ≡ turn (shown t (run (leads column t) i w))
    shows w i l ok =
        ap (shown u) (run_like same M.numbered.closed i w l ok)
        ∙ T.shows (run (leads column t) i w) (run_below k (leads column t) M.numbered.closed i w l ok)

    -- what a row shows is whether some word matches
    row_bit : (i : ℕ) → i < k → (x : Word) → Bytes x → (w : Word) × (shown t (run (leads column t) i x) ≡ bit (matches p w))
    row_bit i l x ok =
        let h = M.numbered.first i l in
        (h.0 ++ x, ap (λ z. shown t (run (leads column t) z x)) (sym h.1.comes) ∙ gives_after (λ w. bit (matches p w)) (leads column t) (shown t) 0 M.gives h.0 x h.1.bytes ok)

    one : (i j : ℕ) → i < k → j < k → (x : Word) → Bytes x → turn (shown t (run (leads column t) i x)) ≡ turn (shown t (run (leads column t) j x)) → shown t (run (leads column t) i x) ≡ shown t (run (leads column t) j x)
    one i j l m x ok e =
        let a = row_bit i l x ok in
        let b = row_bit j m x ok in
        a.1 ∙ turn_same (matches p a.0) (matches p b.0) (ap turn (sym a.1) ∙ e ∙ ap turn b.1) ∙ sym b.1
