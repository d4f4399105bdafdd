use Rattle.std.proofs.Common.{ℕ, not, length, sym, refl, ap, ◌∙◌, subst, arith, below_more}
use Rattle.std.proofs.lemmas.Bool.{or_left, and_left}
use Rattle.patterns.specs.Patterns.{star, matches}
use Rattle.patterns.specs.Promises.{PatternAt}
use Rattle.patterns.proofs.Extents.{node_later, pattern_later, end_none}
use Rattle.patterns.proofs.Matching.{node_kind, matches_leaf, matches_one, matches_two, some_first, some_second, null_length, or_second, and_second, cut_serves, front_fails, rest_fails}
use Rattle.patterns.proofs.Cutting.{cut_some, cut_none, star_some, star_none}
use Rattle.patterns.proofs.direct.+matching.Goals as goal
use Rattle.patterns.proofs.direct.+matching.Goals.{sequence_matches-else-matches_at-via-then-matches_at+else-matches_at-2, sequence_matches-else-matches_at-via-else-matches_at, star_matches-else-matches_at-via-then-matches_at+else-star_matches, star_matches-else-matches_at-via-else-matches_at}

pub matches_at-returns-in-Nothing : goal.matches_at-returns-in-Nothing
matches_at-returns-in-Nothing t c = matches_leaf (node_kind c.width.result c.in-Some.ensures c.width.ensures c.in-Nothing.is) _ _ (λ ps. refl)

pub matches_at-returns-in-Empty : goal.matches_at-returns-in-Empty
matches_at-returns-in-Empty t c =
    matches_leaf (node_kind c.width.result c.in-Some.ensures c.width.ensures c.in-Empty.is) _ _ (λ ps. c.is_empty.ensures ∙ null_length c.args.word.now)

pub matches_at-returns-in-Range : goal.matches_at-returns-in-Range
matches_at-returns-in-Range t c = matches_leaf (node_kind c.width.result c.in-Some.ensures c.width.ensures c.in-Range.is) _ _ (λ ps. c.in_range.ensures)

pub matches_at-returns-in-Complement : goal.matches_at-returns-in-Complement
matches_at-returns-in-Complement t c =
    matches_one (node_kind c.width.result c.in-Some.ensures c.width.ensures c.in-Complement.is) _ _ refl (λ a stop h. ap not (c.matches_at.ensures a stop h))

pub matches_at-returns-in-Star : goal.matches_at-returns-in-Star
matches_at-returns-in-Star t c =
    matches_one (node_kind c.width.result c.in-Some.ensures c.width.ensures c.in-Star.is) _ _ refl (λ a stop h. c.star_matches.ensures a stop h)

pub matches_at-returns-in-Sequence : goal.matches_at-returns-in-Sequence
matches_at-returns-in-Sequence t c =
    matches_two (node_kind c.width.result c.in-Some.ensures c.width.ensures c.in-Sequence.is) _ _ refl
    (λ a b mid stop h g. c.sequence_matches.ensures a b mid stop h (subst (λ (i : ℕ). PatternAt c.args.list.now i b stop) (sym (c.pattern_behind.ensures a mid h)) g))

pub matches_at-matches_at-requires : goal.matches_at-matches_at-requires
matches_at-matches_at-requires t c =
    let k = node_kind c.width.result c.in-Some.ensures c.width.ensures c.in-Complement.is in
    (omega (arith, c.decreases, node_later k), some_first k c.requires (omega arith))

pub matches_at-star_matches-requires : goal.matches_at-star_matches-requires
matches_at-star_matches-requires t c =
    let k = node_kind c.width.result c.in-Some.ensures c.width.ensures c.in-Star.is in
    (omega (arith, c.decreases, node_later k), some_first k c.requires (omega arith))

pub matches_at-unreachable-requires : goal.matches_at-unreachable-requires
matches_at-unreachable-requires t c = end_none c.in_default.ensures c.requires.pattern c.requires.stop c.requires.here

pub matches_at-pattern_behind-requires : goal.matches_at-pattern_behind-requires
matches_at-pattern_behind-requires t c = some_first (node_kind c.width.result c.in-Some.ensures c.width.ensures c.in-Sequence.is) c.requires (omega arith)

pub matches_at-sequence_matches-requires : goal.matches_at-sequence_matches-requires
matches_at-sequence_matches-requires t c =
    let k = node_kind c.width.result c.in-Some.ensures c.width.ensures c.in-Sequence.is in
    let second = some_second k c.pattern_behind.result c.requires refl c.pattern_behind.ensures in
    (omega (arith, c.decreases, node_later k), (some_first k c.requires (omega arith), (second.0, second.1)))

-- or
pub matches_at-matches_at-requires-in-Union : goal.matches_at-matches_at-requires-in-Union
matches_at-matches_at-requires-in-Union t c =
    let k = node_kind c.width.result c.in-Some.ensures c.width.ensures c.in-Union.is in
    (omega (arith, c.decreases, node_later k), some_first k c.requires (omega arith))

pub matches_at-pattern_behind-requires-else-matches_at : goal.matches_at-pattern_behind-requires-else-matches_at
matches_at-pattern_behind-requires-else-matches_at t c =
    some_first (node_kind c.width.result c.in-Some.ensures c.width.ensures c.in-Union.is) c.requires (omega arith)

pub matches_at-matches_at-requires-else-matches_at : goal.matches_at-matches_at-requires-else-matches_at
matches_at-matches_at-requires-else-matches_at t c =
    let k = node_kind c.width.result c.in-Some.ensures c.width.ensures c.in-Union.is in
    let second = some_second k c.pattern_behind-else-matches_at.result c.requires refl c.pattern_behind-else-matches_at.ensures in
    (omega (arith, c.decreases, node_later k, second.1, pattern_later second.0.here), second.0)

pub matches_at-returns-then-matches_at : goal.matches_at-returns-then-matches_at
matches_at-returns-then-matches_at t c =
    matches_two (node_kind c.width.result c.in-Some.ensures c.width.ensures c.in-Union.is) _ _ refl
    (λ a b mid stop h g. c.if-matches_at.true ∙ sym (or_left (matches a c.args.word.now) (matches b c.args.word.now) (sym (c.matches_at-in-Union.ensures a mid h) ∙ c.if-matches_at.true)))

pub matches_at-returns-else-matches_at : goal.matches_at-returns-else-matches_at
matches_at-returns-else-matches_at t c =
    matches_two (node_kind c.width.result c.in-Some.ensures c.width.ensures c.in-Union.is) _ _ refl
    (λ a b mid stop h g. or_second (matches a c.args.word.now) (matches b c.args.word.now) _ (sym (c.matches_at-in-Union.ensures a mid h) ∙ c.if-matches_at.false)
    (c.matches_at-else-matches_at.ensures b stop (subst (λ (i : ℕ). PatternAt c.args.list.now i b stop) (sym (c.pattern_behind-else-matches_at.ensures a mid h)) g)))

-- and
pub matches_at-matches_at-requires-in-Intersection : goal.matches_at-matches_at-requires-in-Intersection
matches_at-matches_at-requires-in-Intersection t c =
    let k = node_kind c.width.result c.in-Some.ensures c.width.ensures c.in-Intersection.is in
    (omega (arith, c.decreases, node_later k), some_first k c.requires (omega arith))

pub matches_at-pattern_behind-requires-then-matches_at-2 : goal.matches_at-pattern_behind-requires-then-matches_at-2
matches_at-pattern_behind-requires-then-matches_at-2 t c =
    some_first (node_kind c.width.result c.in-Some.ensures c.width.ensures c.in-Intersection.is) c.requires (omega arith)

pub matches_at-matches_at-requires-then-matches_at-2 : goal.matches_at-matches_at-requires-then-matches_at-2
matches_at-matches_at-requires-then-matches_at-2 t c =
    let k = node_kind c.width.result c.in-Some.ensures c.width.ensures c.in-Intersection.is in
    let second = some_second k c.pattern_behind-then-matches_at-2.result c.requires refl c.pattern_behind-then-matches_at-2.ensures in
    (omega (arith, c.decreases, node_later k, second.1, pattern_later second.0.here), second.0)

pub matches_at-returns-then-matches_at-2 : goal.matches_at-returns-then-matches_at-2
matches_at-returns-then-matches_at-2 t c =
    matches_two (node_kind c.width.result c.in-Some.ensures c.width.ensures c.in-Intersection.is) _ _ refl
    (λ a b mid stop h g. and_second (matches a c.args.word.now) (matches b c.args.word.now) _ (sym (c.matches_at-in-Intersection.ensures a mid h) ∙ c.if-matches_at-2.true)
    (c.matches_at-then-matches_at-2.ensures b stop (subst (λ (i : ℕ). PatternAt c.args.list.now i b stop) (sym (c.pattern_behind-then-matches_at-2.ensures a mid h)) g)))

pub matches_at-returns-else-matches_at-2 : goal.matches_at-returns-else-matches_at-2
matches_at-returns-else-matches_at-2 t c =
    matches_two (node_kind c.width.result c.in-Some.ensures c.width.ensures c.in-Intersection.is) _ _ refl
    (λ a b mid stop h g. c.if-matches_at-2.false ∙ sym (and_left (matches a c.args.word.now) (matches b c.args.word.now) (sym (c.matches_at-in-Intersection.ensures a mid h) ∙ c.if-matches_at-2.false)))

-- a sequence: a cut that serves; one that doesn't, before the last and as the last
pub sequence_matches-returns-then-matches_at-2 : goal.sequence_matches-returns-then-matches_at-2
sequence_matches-returns-then-matches_at-2 t c p q stop end h g =
    let w = c.args.word.now in
    sym (cut_some (matches p) (matches q) w (length w) c.loop-cut.cut c.loop-cut-test.true
    (cut_serves (matches p) (matches q) w c.loop-cut.cut _ _ (c.matches_at.ensures p stop h) (c.matches_at-then-matches_at.ensures q end g) c.if-matches_at.true c.if-matches_at-2.true))

pub sequence_matches-returns-else-matches_at : goal.sequence_matches-returns-else-matches_at
sequence_matches-returns-else-matches_at t c p q stop end h g =
    let w = c.args.word.now in
    let all = below_more _ _ (c.loop-cut.invariant p q stop end h g) (elim c.else-matches_at.branch [
      | sequence_matches-else-matches_at-via-then-matches_at+else-matches_at-2 v ↦ rest_fails (matches p) (matches q) w c.loop-cut.cut _ (v.matches_at-then-matches_at.ensures q end g) v.if-matches_at-2.false
      | sequence_matches-else-matches_at-via-else-matches_at v ↦ front_fails (matches p) (matches q) w c.loop-cut.cut _ (c.matches_at.ensures p stop h) v.if-matches_at.false
    ]) in
    sym (cut_none (matches p) (matches q) w (length w) (λ k l. all k (omega arith)))

-- a repetition: the same with a first part that isn't empty
pub star_matches-returns-then-star_matches : goal.star_matches-returns-then-star_matches
star_matches-returns-then-star_matches t c p stop h =
    let w = c.args.word.now in
    star_some p w c.loop-cut.cut (omega arith) c.loop-cut-test.true
    (cut_serves (matches p) (matches (star p)) w c.loop-cut.cut _ _ (c.matches_at.ensures p stop h) (c.star_matches.ensures p stop h) c.if-matches_at.true c.if-star_matches.true)

pub star_matches-returns-else-matches_at : goal.star_matches-returns-else-matches_at
star_matches-returns-else-matches_at t c p stop h =
    let w = c.args.word.now in
    let all = below_more _ _ (c.loop-cut.invariant p stop h) (λ pos. elim c.else-matches_at.branch [
      | star_matches-else-matches_at-via-then-matches_at+else-star_matches v ↦ rest_fails (matches p) (matches (star p)) w c.loop-cut.cut _ (v.star_matches.ensures p stop h) v.if-star_matches.false
      | star_matches-else-matches_at-via-else-matches_at v ↦ front_fails (matches p) (matches (star p)) w c.loop-cut.cut _ (c.matches_at.ensures p stop h) v.if-matches_at.false
    ]) in
    star_none p w (omega arith) (λ k pos l. all k (omega arith) pos)
