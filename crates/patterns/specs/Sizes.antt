-- How much must be told apart to work a pattern out from its parts. Assumes nothing.
--   Behind L w v         v stands in w behind a front that is in L
--   Alive M v            something can still follow v in M
--   SameBehind L M w x   the same things are left of M behind the fronts of w and of x that are in L; what can't
--                        match any more is set aside
--   Indistinct p u v     the step of the work at p's top doesn't tell u and v apart
--   Top n p              that step tells at most n classes of words apart
--   Fits n p             so does the step at each part of p
use Rattle.std.specs.Prelude.{◌≡◌, ℕ, ◌≤◌, List, ◌++◌, length}
use Rattle.machines.specs.Words.{Word, Bytes}
use Rattle.machines.specs.Classes.{Classes}
use Rattle.patterns.specs.Patterns.{Pattern, nothing, empty, range, seq, union, inter, compl, star}
use Rattle.patterns.specs.Residuals.{Language, Of, SameResidual}

abbrev pub Behind : Language → Word → Word → Type 0
Behind L w v = (u : Word) × (u ++ v ≡ w) × L u

abbrev pub Alive : Language → Word → Type 0
Alive M v = (x : Word) × Bytes x × M (v ++ x)

abbrev pub SameBehind : Language → Language → Word → Word → Type 0
SameBehind L M w x =
    ((v : Word) → Behind L w v → Alive M v → (y : Word) × Behind L x y × SameResidual M v y)
    × ((y : Word) → Behind L x y → Alive M y → (v : Word) × Behind L w v × SameResidual M v y)

abbrev pub Indistinct : Pattern → Word → Word → Type 0
Indistinct nothing u v = Unit {0}
Indistinct empty u v = SameResidual (Of empty) u v
Indistinct (range a b) u v = SameResidual (Of (range a b)) u v
Indistinct (seq p q) u v = SameResidual (Of p) u v × SameBehind (Of p) (Of q) u v
Indistinct (union p q) u v = SameResidual (Of p) u v × SameResidual (Of q) u v
Indistinct (inter p q) u v = SameResidual (Of p) u v × SameResidual (Of q) u v
Indistinct (compl p) u v = SameResidual (Of p) u v
Indistinct (star p) u v = SameResidual (Of (star p)) u v × SameBehind (Of (star p)) (Of p) u v

abbrev pub Top : ℕ → Pattern → Type 0
Top n p = (firsts : List Word) × Classes (Indistinct p) firsts × (length firsts ≤ n)

-- 'not' needs no step of its own: it tells apart no more than its part does
abbrev pub Fits : ℕ → Pattern → Type 0
Fits n nothing = Top n nothing
Fits n empty = Top n empty
Fits n (range a b) = Top n (range a b)
Fits n (seq p q) = Fits n p × Fits n q × Top n (seq p q)
Fits n (union p q) = Fits n p × Fits n q × Top n (union p q)
Fits n (inter p q) = Fits n p × Fits n q × Top n (inter p q)
Fits n (compl p) = Fits n p
Fits n (star p) = Fits n p × Top n (star p)
