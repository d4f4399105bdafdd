-- What f tells apart is a congruence, and the coarsest that agrees with f; what the rows of a machine and the keys of a
-- system tell apart. Assumes nothing.
use Rattle.std.proofs.Common.{◌≡◌, ℕ, ◌<◌, ◌↔◌, [], ◌∷◌, ◌++◌, sym, refl, ap, ◌∙◌}
use Rattle.std.proofs.lemmas.List.{append_assoc, append-nil}
use Rattle.machines.specs.Words.{Word, Bytes}
use Rattle.machines.specs.Machines.{run}
use Rattle.machines.specs.Minimal.{Nerode, Like, Closed}
use Rattle.machines.specs.Systems.{Key}
use Rattle.machines.specs.Laws.{Congruence, SameKey}
use Rattle.machines.proofs.Codes.{bytes_append, reach_push}
use Rattle.machines.proofs.Pieces.{run_append}

module _ (f : Word → ℕ) where
  pub nerode_append : (u v s : Word) → Bytes s → Nerode f u v → Nerode f (u ++ s) (v ++ s)
  nerode_append u v s o e x ok = rw (append_assoc u s x, append_assoc v s x) (e (s ++ x) (bytes_append s x o ok))

  pub nerode_here : (u v : Word) → Nerode f u v → f u ≡ f v
  nerode_here u v e = rw (append-nil u, append-nil v) at (e [] tt)

  pub nerode_congruence : Congruence (Nerode f)
  nerode_congruence = record {
    same = λ u x ok. refl;
    back = λ u v e x ok. sym (e x ok);
    on = λ u v w a b x ok. a x ok ∙ b x ok;
    push = λ u v b l e. nerode_append u v (b ∷ []) (l, tt) e;
  }

module _ {E : Word → Word → Type 0} (R : Congruence E) where
  pub congruence_append : (u v x : Word) → Bytes x → E u v → E (u ++ x) (v ++ x)
  congruence_append u v [] ok e = rw (append-nil u, append-nil v) e
  congruence_append u v (b ∷ x) (l, ok) e =
      rw (append_assoc u (b ∷ []) x, append_assoc v (b ∷ []) x) at (congruence_append (u ++ b ∷ []) (v ++ b ∷ []) x ok (R.push u v b l e))

  pub congruence_nerode : (f : Word → ℕ) → ((u v : Word) → E u v → f u ≡ f v) → (u v : Word) → E u v → Nerode f u v
  congruence_nerode f here u v e x ok = here (u ++ x) (v ++ x) (congruence_append u v x ok e)

-- a machine that gives f from row i: what f is after more bytes depends on the row alone
module _ (f : Word → ℕ) (next : ℕ → ℕ → ℕ) (output : ℕ → ℕ) (i : ℕ) (gives : (w : Word) → Bytes w → output (run next i w) ≡ f w) where
  pub gives_after : (u x : Word) → Bytes u → Bytes x → output (run next (run next i u) x) ≡ f (u ++ x)
  gives_after u x a b = ap output (sym (run_append next i u x)) ∙ gives (u ++ x) (bytes_append u x a b)

  pub gives_like : (u v : Word) → Bytes u → Bytes v → Like next output (run next i u) (run next i v) ↔ Nerode f u v
  gives_like u v a b = (
    (λ e x ok. sym (gives_after u x a ok) ∙ e x ok ∙ gives_after v x b ok),
    (λ e x ok. gives_after u x a ok ∙ e x ok ∙ sym (gives_after v x b ok)),
  )

  pub gives_row : (u v : Word) → Bytes u → Bytes v → run next i u ≡ run next i v → Nerode f u v
  gives_row u v a b e = (gives_like u v a b).0 (λ x ok. ap (λ j. output (run next j x)) e)

pub run_below : (k : ℕ) (next : ℕ → ℕ → ℕ) → Closed k next → (i : ℕ) (w : Word) → i < k → Bytes w → run next i w < k
run_below k next s i [] l w = l
run_below k next s i (b ∷ w) l (m, ok) = run_below k next s (next i b) w (s i b l m) ok

pub run_same : (next goes : ℕ → ℕ → ℕ) → ((i b : ℕ) → next i b ≡ goes i b) → (i : ℕ) (w : Word) → run next i w ≡ run goes i w
run_same next goes e i [] = refl
run_same next goes e i (b ∷ w) = ap (λ j. run next j w) (e i b) ∙ run_same next goes e (goes i b) w

pub key_push : (next : Key → ℕ → Key) (s : Key) (u v : Word) (b : ℕ) → SameKey next s u v → SameKey next s (u ++ b ∷ []) (v ++ b ∷ [])
key_push next s u v b e = reach_push next s u b ∙ ap (λ k. next k b) e ∙ sym (reach_push next s v b)

pub key_congruence : (next : Key → ℕ → Key) (s : Key) → Congruence (SameKey next s)
key_congruence next s = record {
  same = λ u. refl;
  back = λ u v e. sym e;
  on = λ u v w a b. a ∙ b;
  push = λ u v b l e. key_push next s u v b e;
}
