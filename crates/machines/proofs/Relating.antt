-- First words and a table of one relation are those of every relation that relates the same words. Assumes nothing.
use Rattle.std.proofs.Common.{ℕ, ◌↔◌, List, [], ◌∷◌, ◌++◌}
use Rattle.machines.specs.Words.{Word, Bytes}
use Rattle.machines.specs.Classes.{Classes}
use Rattle.machines.specs.Laws.{TableOf}
use Rattle.machines.proofs.Codes.{bytes_push}

module _ {E D : Word → Word → Type 0} (iff : (u v : Word) → Bytes u → Bytes v → E u v ↔ D u v) where
  pub classes_related : {firsts : List Word} → Classes E firsts → Classes D firsts
  classes_related c = record {
    bytes = c.bytes;
    order = c.order;
    first = λ i u v m ok l e. c.first i u v m ok l ((iff u v (c.bytes i u m) ok).1 e);
    differ = λ i j u v m n e. c.differ i j u v m n ((iff u v (c.bytes i u m) (c.bytes j v n)).1 e);
    all = λ w ok. let h = c.all w ok in (h.0, h.1, h.2, (iff h.1 w (c.bytes h.0 h.1 h.2) ok).0 h.3);
  }

  pub table_related : {column : ℕ → ℕ} {f : Word → ℕ} {firsts : List Word} {t : List ℕ} → TableOf column E f firsts t → TableOf column D f firsts t
  table_related t = let c = t.classes in record {
    classes = classes_related c;
    long = t.long;
    outputs = t.outputs;
    goes = λ i b u m l. let g = t.goes i b u m l in
        (g.0, g.1, g.2, g.3, (iff (u ++ b ∷ []) g.1 (bytes_push u b (c.bytes i u m) l) (c.bytes g.0 g.1 g.3)).0 g.4);
  }
