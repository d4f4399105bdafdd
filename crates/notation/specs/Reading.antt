-- How far reading has come in the text. Assumes nothing.
--   On s t        from s the reader went on to t, or stayed
--   Past s t      it read something
--   Within xs n   the span lies in the text and isn't empty
use Rattle.std.specs.Prelude.{◌≡◌, ℕ, ◌<◌, ◌≤◌, List, length}
use Rattle.notation.specs.declared.scan.Reader.{Reader}
use Rattle.notation.specs.declared.scan.Span.{Span}

pub record On (s t : Reader) : Type 0 where
  pub same : t.text ≡ s.text
  pub on : s.at ≤ t.at

pub record Past (s t : Reader) : Type 0 where
  pub same : t.text ≡ s.text
  pub there : s.at < length s.text.now
  pub on : s.at < t.at

pub record Within (xs : List ℕ) (n : Span) : Type 0 where
  pub some : n.start < n.end
  pub ends : n.end ≤ length xs
