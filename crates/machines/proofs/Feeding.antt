-- A table that is fed a piece: what holds after its first bytes. Assumes nothing.
use Rattle.std.proofs.Common.{◌≡◌, ℕ, ◌+◌, ◌*◌, ◌<◌, ◌≤◌, List, [], ◌∷◌, ◌++◌, length, get_or, take, drop, set, sym, ap, ◌∙◌, arith}
use Rattle.std.proofs.lemmas.List.{at_drop_more, append_assoc, take_more_set, drop-set-lt}
use Rattle.machines.specs.Words.{Word}
use Rattle.machines.specs.Tables.{LeadsInside, walk, seen}
use Rattle.machines.proofs.Cells.{or0_nth}

-- the row to go to from a row at a byte, as code reads it
abbrev pub goes : List ℕ → ℕ → ℕ → ℕ
goes t at b = get_or t (257 * at + (1 + b)) 0

-- what is left of the piece leads on to where the whole leads, and shows what the whole shows behind what is written
pub record Feeding (k : ℕ) (t : List ℕ) (w : Word) (before : List ℕ) (row : ℕ) (o : List ℕ) (at i : ℕ) : Type 0 where
  pub there : at < k
  pub leads : walk t at (drop i w) ≡ walk t row w
  pub shows : take i o ++ seen t at (drop i w) ≡ seen t row w
  pub beyond : drop (length w) o ≡ drop (length w) before

walk_more : (t w : List ℕ) (at i : ℕ) → i < length w → walk t at (drop i w) ≡ walk t (goes t at (get_or w i 0)) (drop (i + 1) w)
walk_more t w at i h = at_drop_more (walk t at) w i 0 h ∙ ap (λ n. walk t n (drop (i + 1) w)) (or0_nth t (257 * at + (1 + get_or w i 0)))

seen_more : (t w : List ℕ) (at i : ℕ) → i < length w
    → seen t at (drop i w) ≡ get_or t (257 * goes t at (get_or w i 0)) 0 ∷ seen t (goes t at (get_or w i 0)) (drop (i + 1) w)
seen_more t w at i h = at_drop_more (seen t at) w i 0 h ∙ simp or0_nth

-- what was written, with what is still to come behind it
written_more : (o s : List ℕ) (i x : ℕ) → i < length o → take (i + 1) (set o i x) ++ s ≡ take i o ++ (x ∷ s)
written_more o s i x h = rw (take_more_set o i x h) (append_assoc (take i o) (x ∷ []) s)

module _ {k : ℕ} {t : List ℕ} {w : Word} {before : List ℕ} {row : ℕ} {o : List ℕ} {at i : ℕ} where
  pub feeding_more : LeadsInside k t → i < length w → length w ≤ length o → get_or w i 0 < 256 → Feeding k t w before row o at i
      → Feeding k t w before row (set o i (get_or t (257 * goes t at (get_or w i 0)) 0)) (goes t at (get_or w i 0)) (i + 1)
  feeding_more inside hi ho hb f = let lo : i < length o = omega arith in record {
    there = inside at f.there (get_or w i 0) hb;
    leads = sym (walk_more t w at i hi) ∙ f.leads;
    shows = written_more o _ i _ lo ∙ ap (λ s. take i o ++ s) (sym (seen_more t w at i hi)) ∙ f.shows;
    beyond = drop-set-lt (length w) o i _ hi ∙ f.beyond;
  }
