-- One pattern more: the pairs of a row of the list so far and a row of the pattern are what the longer list tells apart, so that
-- their table is its table, and more of them than there is room for refute every list that begins so. Assumes nothing.
use Rattle.std.proofs.Common.{ℕ, ◌<◌, ◌↔◌, List, [], ◌∷◌, ◌++◌, length, Some, None, Option, sym, ◌∙◌, subst, arith}
use Rattle.machines.specs.Words.{Word, Bytes}
use Rattle.machines.specs.Columns.{shown, leads}
use Rattle.machines.specs.Minimal.{Gives, Minimal}
use Rattle.machines.specs.Laws.{SameKey}
use Rattle.machines.proofs.Pigeons.{pairwise_many}
use Rattle.machines.proofs.Firsts.{numbered_firsts, minimal_rows, explored_as}
use Rattle.exploration.specs.Exploring.{Says}
use Rattle.exploration.specs.Pairs.{pair_next, pair_shows}
use Rattle.exploration.proofs.Paired.{pair_same, pair_complete}
use Rattle.patterns.specs.Patterns.{Pattern, matches}
use Rattle.patterns.specs.Sizes.{Fits}
use Rattle.patterns.specs.Searching.{anywhere, bit, ends, SameSearch}
use Rattle.listing.specs.LastBit.{with_bit}
use Rattle.listing.specs.Listed.{Listed, NextSays, JoinSays}
use Rattle.listing.proofs.Ends.{bit_small, residual_nerode, search_nerode, nerode_search, ends_last, ends_small, ends_more}
use Rattle.listing.proofs.Fronts.{same_more, same_front, fit_more}
use Rattle.listing.proofs.Pairing.{pair_minimal}
use Rattle.listing.proofs.LastBit.{with_bit_sum}

module _ (column : ℕ → ℕ) (c n : ℕ) (ps : List Pattern) (p : Pattern) (front next : List ℕ) {fronts nexts : ℕ}
    (L : Listed column c ps n fronts front) (R : Minimal (λ w. bit (matches (anywhere p) w)) nexts (leads column next) (shown next)) where
  -- two texts lead to one pair exactly if the longer list doesn't tell them apart
  pair_search : (u v : Word) → Bytes u → Bytes v → SameKey (pair_next column front next) (0 ∷ 0 ∷ []) u v ↔ SameSearch (ps ++ p ∷ []) u v
  pair_search u v a b =
      let rows = minimal_rows L.minimal u v a b in
      let others = minimal_rows R u v a b in
      let pair = pair_same column front next u v in
      let more = same_more ps p u v in
      let residual = residual_nerode (anywhere p) u v in (
        (λ e. let q = pair.0 e in more.1 (nerode_search ps u v (rows.0 q.0), residual.1 (others.0 q.1))),
        (λ e. let q = more.0 e in pair.1 (rows.1 (search_nerode ps u v q.0), others.1 (residual.0 q.1))),
      )

  join_says : length ps < 32 → Fits n (anywhere p) → (width : ℕ) (keys t : List ℕ) (r : Option ℕ)
      → Says (pair_next column front next) (0 ∷ 0 ∷ []) (pair_shows (with_bit (length ps)) front next) column c width n keys t r → NextSays column c ps p n t r
  join_says room fits width keys t None (ws, many) = λ qs (_, (firsts, classes, few)).
      pairwise_many (λ u v a b e. (pair_search u v a b).1 (same_front (ps ++ p ∷ []) qs u v e)) many classes few
  join_says room fits width keys t (Some k) X = record {
    few = X.few;
    fits = (
      fit_more n ps p L.fits.0 fits,
      (let F = numbered_firsts X.explored.numbered in (F.0, explored_as X.explored F.1 pair_search, omega (arith, F.1.long, X.few))),
    );
    inside = X.inside;
    minimal = pair_minimal column front next (ends_last ps p) L.minimal R (shown t) X.explored gives;
  }
    where
      gives : Gives (ends (ps ++ p ∷ [])) (leads column t) (shown t)
      gives w ok =
          pair_complete column front next (with_bit (length ps)) (ends ps) (λ w. bit (matches (anywhere p) w)) L.minimal.gives R.gives X w ok
          ∙ with_bit_sum (length ps) (ends ps w) (bit (matches (anywhere p) w)) room (ends_small ps w) (bit_small (matches (anywhere p) w))
          ∙ sym (ends_more ps p w)

pub joined : (column : ℕ → ℕ) (c n i fronts nexts width : ℕ) (front next keys t : List ℕ) (r : Option ℕ) → i < 32
    → Says (pair_next column front next) (0 ∷ 0 ∷ []) (pair_shows (with_bit i) front next) column c width n keys t r → JoinSays column c n i fronts front nexts next t r
joined column c n i fronts nexts width front next keys t r room says ps p long L fits R =
    join_says column c n ps p front next L R (omega arith) fits width keys t r
    (subst (λ z. Says (pair_next column front next) (0 ∷ 0 ∷ []) (pair_shows (with_bit z) front next) column c width n keys t r) (sym long) says)
