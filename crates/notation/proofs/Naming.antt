-- Names and patterns, line after line. Assumes nothing.
use Rattle.std.proofs.Common.{rules, ◌≡◌, ℕ, ◌<◌, true, List, [], ◌∷◌, ◌++◌, length, sym, refl, ap, ◌∙◌, subst, arith}
use Rattle.std.specs.List.{All}
use Rattle.std.proofs.lemmas.List.{append-nil, length_push}
use Rattle.std.proofs.lemmas.List.Elements.{All-nil, All-push}
use Rattle.std.proofs.lemmas.List.Quantifiers.{all_pairs_push}
use Rattle.std.proofs.lemmas.Bool.{and_from}
use Rattle.patterns.specs.Lists.{write, write_list, sound}
use Rattle.patterns.proofs.Trees.{write_append, sound_append}
use Rattle.notation.specs.declared.scan.Span.{Span}
use Rattle.notation.specs.Reading.{Within}
use Rattle.notation.specs.Writing.{Added}
use Rattle.notation.specs.Names.{Unlike}
use Rattle.notation.specs.declared.scan.Reader.{Reader}
use Rattle.notation.specs.Promises.{Notated, Line}

-- no line yet, and one more
pub notated_none : (xs : List ℕ) → Notated xs [] []
notated_none xs = record {
  patterns = [];
  list = record { written = refl; sounds = refl; few = omega arith; short = omega arith };
  named = refl;
  within = All-nil (Within xs);
  distinct = search rules;
}

pub notated_more : {xs bytes bytes' : List ℕ} {names : List Span} (n : Span) → Notated xs bytes names → Added bytes bytes' → length names < 32 → Within xs n → All (Unlike xs n) names
    → Notated xs bytes' (names ++ (n ∷ []))
notated_more {xs = xs} {names = names} n h a room within new =
    let ps = h.patterns in
    let p = a.pattern in
    record {
      patterns = ps ++ (p ∷ []);
      list = record {
        written = write_append ps (p ∷ []) ∙ ap (λ w. write_list ps ++ w) (append-nil (write p)) ∙ ap (λ w. w ++ write p) h.list.written ∙ sym a.put.is;
        sounds = sound_append ps (p ∷ []) h.list.sounds (and_from (sound p) true a.sounds refl);
        few = omega (arith, h.named, length_push ps p);
        short = a.put.short;
      };
      named = omega (arith, h.named, length_push ps p, length_push names n);
      within = All-push (Within xs) names n h.within within;
      distinct = all_pairs_push (Unlike xs) names n h.distinct (λ k d l e. new k d l (sym e));
    }

-- the same from what reading a line says
pub notated_line : {xs bytes bytes' : List ℕ} {names names' : List Span} {s t : Reader} {n : Span} → s.text.now ≡ xs → names' ≡ names → Notated xs bytes names → Line s t bytes bytes' names' n
    → Notated xs bytes' (names ++ (n ∷ []))
notated_line {xs = xs} {names = names} {names' = names'} {n = n} e f h l =
    notated_more n h l.added (subst (λ (ns : List Span). length ns < 32) f l.room) (subst (λ (w : List ℕ). Within w n) e l.within)
    (subst (λ (ns : List Span). All (Unlike xs n) ns) f (subst (λ (w : List ℕ). All (Unlike w n) names') e l.new))
