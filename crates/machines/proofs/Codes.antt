-- A word's number goes by shortlex order, so that the order of words is arithmetic. Assumes nothing.
use Rattle.std.proofs.Common.{◌≡◌, ℕ, ◌+◌, ◌*◌, ◌<◌, ◌≤◌, [], ◌∷◌, ◌++◌, length, sym, refl, subst, ⊎_elim, arith}
use Rattle.std.proofs.lemmas.Bool.{cases_order}
use Rattle.machines.specs.Words.{Word, Bytes, Less, at_once, later, shorter}
use Rattle.machines.specs.Machines.{run}
use Rattle.machines.specs.Minimal.{code}
use Rattle.machines.specs.Systems.{Key, reach}

pub reach_push : (f : Key → ℕ → Key) (s : Key) (w : Word) (b : ℕ) → reach f s (w ++ b ∷ []) ≡ f (reach f s w) b
reach_push f s [] b = refl
reach_push f s (x ∷ w) b = reach_push f (f s x) w b

pub run_push : (next : ℕ → ℕ → ℕ) (i : ℕ) (w : Word) (b : ℕ) → run next i (w ++ b ∷ []) ≡ next (run next i w) b
run_push next i [] b = refl
run_push next i (x ∷ w) b = run_push next (next i x) w b

pub bytes_append : (u v : Word) → Bytes u → Bytes v → Bytes (u ++ v)
bytes_append [] v a b = b
bytes_append (x ∷ u) v (l, a) b = (l, bytes_append u v a b)

pub code_push : (a : ℕ) (w : Word) (b : ℕ) → code a (w ++ b ∷ []) ≡ 256 * code a w + (1 + b)
code_push a [] b = refl
code_push a (x ∷ w) b = code_push (256 * a + (1 + x)) w b

pub bytes_push : (w : Word) (b : ℕ) → Bytes w → b < 256 → Bytes (w ++ b ∷ [])
bytes_push [] b o h = (h, tt)
bytes_push (x ∷ w) b o h = (o.0, bytes_push w b o.1 h)

code_from : (a : ℕ) (w : Word) → a ≤ code a w
code_from a [] = omega arith
code_from a (x ∷ w) = omega (arith, code_from (256 * a + (1 + x)) w)

code_mono : (a c : ℕ) (u v : Word) → a < c → length u ≤ length v → Bytes u → code a u < code c v
code_mono a c [] v h k o = omega (arith, code_from c v)
code_mono a c (x ∷ u) [] h k o = absurd (omega arith)
code_mono a c (x ∷ u) (y ∷ v) h k o = code_mono (256 * a + (1 + x)) (256 * c + (1 + y)) u v (omega (arith, o.0)) (omega arith) o.1

longer : (a : ℕ) (u v : Word) → length u < length v → Bytes u → code a u < code a v
longer a u [] h o = absurd (omega arith)
longer a u (y ∷ v) h o = code_mono a (256 * a + (1 + y)) u v (omega arith) (omega arith) o

pub less_code : (a : ℕ) {u v : Word} → Less u v → Bytes u → code a u < code a v
less_code a (at_once {x = x} {y = y} {u = u} {v = v} h e) o = code_mono (256 * a + (1 + x)) (256 * a + (1 + y)) u v (omega arith) (omega arith) o.1
less_code a (later {x = x} h e) o = less_code (256 * a + (1 + x)) h o.1
less_code a (shorter {u = u} {v = v} h) o = longer a u v h o

same_long : (a : ℕ) (u v : Word) → length u ≡ length v → code a u < code a v → Bytes v → Less u v
same_long a [] [] e h o = absurd (omega arith)
same_long a [] (y ∷ v) e h o = absurd (omega arith)
same_long a (x ∷ u) [] e h o = absurd (omega arith)
same_long a (x ∷ u) (y ∷ v) e h o = ⊎_elim
    (λ (q : x ≡ y). subst (λ z. Less (x ∷ u) (z ∷ v)) q (later (same_long (256 * a + (1 + x)) u v (omega arith) (subst (λ z. code (256 * a + (1 + x)) u < code (256 * a + (1 + z)) v) (sym q) h) o.1) (omega arith)))
    (⊎_elim (λ (q : x < y). at_once q (omega arith))
    (λ (q : y < x). absurd (omega (arith, h, code_mono (256 * a + (1 + y)) (256 * a + (1 + x)) v u (omega arith) (omega arith) o.1))))
    (cases_order x y)

pub code_less : (u v : Word) → code 0 u < code 0 v → Bytes v → Less u v
code_less u v h o = ⊎_elim (λ (q : length u ≡ length v). same_long 0 u v q h o)
    (⊎_elim (λ (q : length u < length v). shorter q) (λ (q : length v < length u). absurd (omega (arith, longer 0 v u q o))))
    (cases_order (length u) (length v))
