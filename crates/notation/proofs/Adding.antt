-- Patterns written behind a list's bytes, from their parts. Assumes nothing.
use Rattle.std.proofs.Common.{◌≡◌, ℕ, ◌-◌, ◌<◌, ◌≤◌, true, ◌&&◌, ltb, leb, List, [], ◌∷◌, ◌++◌, length, take, drop, IfOk, Ok, Err, Result, sym, refl, ap, ◌∙◌, arith, length-append, take_all, lt-ltb, le-leb}
use Rattle.std.proofs.lemmas.List.{append_assoc, take_at, drop_at}
use Rattle.std.proofs.lemmas.Bool.{and_from}
use Rattle.std.specs.List.{insert, between}
use Rattle.patterns.specs.Patterns.{Pattern, empty, range, seq, union, inter, compl, star}
use Rattle.patterns.specs.Lists.{write, sound}
use Rattle.notation.specs.declared.scan.Reader.{Reader}
use Rattle.notation.specs.Reading.{Past}
use Rattle.notation.specs.Writing.{Put, Added, Keeps, Parsed}
use Rattle.notation.proofs.Moving.{past_past}

-- bytes, and then more
pub put_both : {xs u ys v zs : List ℕ} → Put xs u ys → Put ys v zs → Put xs (u ++ v) zs
put_both {xs = xs} {u = u} {v = v} h g = record { is = g.is ∙ ap (λ l. l ++ v) h.is ∙ append_assoc xs u v; short = g.short }

-- a byte in front of what stands behind a base
pub inserted_at : (base w : List ℕ) (i k : ℕ) → length base ≡ i → insert (base ++ w) i k ≡ base ++ (k ∷ w)
inserted_at base w i k e = ap (λ l. l ++ (k ∷ drop i (base ++ w))) (take_at base w i e) ∙ ap (λ l. base ++ (k ∷ l)) (drop_at base w i e)

-- one pattern
pub added : {xs ys : List ℕ} (p : Pattern) → sound p ≡ true → Put xs (write p) ys → Added xs ys
added p s h = record { pattern = p; sounds = s; put = h }

pub added_range : {xs ys : List ℕ} (a b : ℕ) → b < 256 → a ≤ b → Put xs (2 ∷ a ∷ b ∷ []) ys → Added xs ys
added_range a b l m h = added (range a b) (and_from (ltb b 256) (leb a b) (lt-ltb b 256 l) (le-leb a b m)) h

-- an operator of two patterns, by its byte
pub record Operator (k : ℕ) : Type 0 where
  pub of : Pattern → Pattern → Pattern
  pub writes : (p q : Pattern) → write (of p q) ≡ k ∷ (write p ++ write q)
  pub sounds : (p q : Pattern) → sound (of p q) ≡ (sound p && sound q)

pub sequences : Operator 3
sequences = record { of = seq; writes = λ p q. refl; sounds = λ p q. refl }

pub unions : Operator 4
unions = record { of = union; writes = λ p q. refl; sounds = λ p q. refl }

pub intersections : Operator 5
intersections = record { of = inter; writes = λ p q. refl; sounds = λ p q. refl }

both : {k : ℕ} (o : Operator k) {xs ys zs : List ℕ} (p : Pattern) → sound p ≡ true → ys ≡ xs ++ (k ∷ write p) → Added ys zs → Added xs zs
both {k = k} o {xs = xs} p s e h =
    let q = h.pattern in
    added (o.of p q) (o.sounds p q ∙ and_from (sound p) (sound q) s h.sounds) (record {
      is = h.put.is ∙ ap (λ l. l ++ write q) e ∙ append_assoc xs (k ∷ write p) (write q) ∙ ap (λ l. xs ++ l) (sym (o.writes p q));
      short = h.put.short;
    })

-- its byte comes in front of the first pattern, where that began, and the second behind it
pub added_infix : {k : ℕ} (o : Operator k) {xs us ys zs : List ℕ} (start : ℕ) → length xs ≡ start → Added xs us → ys ≡ insert us start k → Added ys zs → Added xs zs
added_infix {k = k} o {xs = xs} start l h e g =
    both o h.pattern h.sounds (e ∙ ap (λ u. insert u start k) h.put.is ∙ inserted_at xs (write h.pattern) start k l) g

-- its byte and a range come before the second pattern
pub added_front : {k : ℕ} (o : Operator k) {xs us ys zs : List ℕ} (a b : ℕ) → b < 256 → a ≤ b → Put xs (k ∷ []) us → Put us (2 ∷ a ∷ b ∷ []) ys → Added ys zs → Added xs zs
added_front o {xs = xs} a b l m h f g =
    both o (range a b) (and_from (ltb b 256) (leb a b) (lt-ltb b 256 l) (le-leb a b m)) (put_both h f).is g

pub added_not : {xs ys zs : List ℕ} → Put xs (6 ∷ []) ys → Added ys zs → Added xs zs
added_not {xs = xs} h g = added (compl g.pattern) g.sounds (record {
  is = g.put.is ∙ ap (λ l. l ++ write g.pattern) h.is ∙ append_assoc xs (6 ∷ []) (write g.pattern);
  short = g.put.short;
})

-- what stands behind a pattern
pub keeps_star : {xs ys : List ℕ} (start : ℕ) → ys ≡ insert xs start 7 → length ys ≤ 4096 → Keeps start xs ys
keeps_star start e s base l h = added (star h.pattern) h.sounds (record {
  is = e ∙ ap (λ u. insert u start 7) h.put.is ∙ inserted_at base (write h.pattern) start 7 l;
  short = s;
})

pub keeps_optional : {xs us ys : List ℕ} (start : ℕ) → us ≡ insert xs start 1 → ys ≡ insert us start 4 → length ys ≤ 4096 → Keeps start xs ys
keeps_optional start e f s base l h = added (union empty h.pattern) h.sounds (record {
  is = f
      ∙ ap (λ u. insert u start 4) (e ∙ ap (λ u. insert u start 1) h.put.is ∙ inserted_at base (write h.pattern) start 1 l)
      ∙ inserted_at base (1 ∷ write h.pattern) start 4 l;
  short = s;
})

-- it and many of it: it is written again behind itself, and then come the bytes of the two operators
pub keeps_again : {xs us vs ys : List ℕ} (start end : ℕ) → end ≡ length xs → us ≡ xs ++ between start end xs → vs ≡ insert us end 7 → ys ≡ insert vs start 3 → length ys ≤ 4096
    → Keeps start xs ys
keeps_again {xs = xs} {us = us} {vs = vs} start end l e f g s base m h =
    let p = h.pattern in
    let w = write p in
    let long = length-append base w in
    let all = ap length h.put.is in
    let part : between start end xs ≡ w =
    ap (λ u. take (end - start) (drop start u)) h.put.is ∙ ap (take (end - start)) (drop_at base w start m) ∙ take_all (end - start) w (omega arith) in
    let twice : us ≡ (base ++ w) ++ w = e ∙ ap (λ u. u ++ between start end xs) h.put.is ∙ ap (λ u. (base ++ w) ++ u) part in
    let many : vs ≡ base ++ (w ++ (7 ∷ w)) =
    f ∙ ap (λ u. insert u end 7) twice ∙ inserted_at (base ++ w) w end 7 (omega arith) ∙ append_assoc base w (7 ∷ w) in
    added (seq p (star p)) (and_from (sound p) (sound p) h.sounds h.sounds) (record {
      is = g ∙ ap (λ u. insert u start 3) many ∙ inserted_at base (w ++ (7 ∷ w)) start 3 m;
      short = s;
    })

-- a pattern whose bytes were written where the reader had come
pub parsed_as : {s t : Reader} {xs ys : List ℕ} (p : Pattern) → sound p ≡ true → Past s t → Put xs (write p) ys → Parsed s t xs ys
parsed_as p e h put = record { past = h; added = added p e put }

pub parsed_byte : {s t : Reader} {xs ys : List ℕ} (b : ℕ) → b < 256 → Past s t → Put xs (2 ∷ b ∷ b ∷ []) ys → Parsed s t xs ys
parsed_byte b l h put = record { past = h; added = added_range b b l (omega arith) put }

-- a pattern read from further on, and one written while the reader went on
pub parsed_on : {s t u : Reader} {xs ys : List ℕ} → Past s t → Parsed t u xs ys → Parsed s u xs ys
parsed_on h g = record { past = past_past h g.past; added = g.added }

-- two patterns and the byte of their operator between
pub parsed_infix : {k : ℕ} (o : Operator k) {s t u : Reader} {xs us ys zs : List ℕ} {start n : ℕ} → start ≡ n → n ≡ length xs → Parsed s t xs us → ys ≡ insert us start k → Parsed t u ys zs → Parsed s u xs zs
parsed_infix o {start = start} e f h i g = record { past = past_past h.past g.past; added = added_infix o start (sym (e ∙ f)) h.added i g.added }

-- two promises of one call
pub made_both : {X Y : Type 0} (r : Result X Y) {P Q R : Type 0} → IfOk r (λ _. P) → IfOk r (λ _. Q) → (P → Q → R) → IfOk r (λ _. R)
made_both (Ok x) p q f = f p q
made_both (Err y) p q f = tt
