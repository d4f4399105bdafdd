use Rattle.std.proofs.Common.{rules, ℕ, ◌-◌, ◌*◌, ◌≡◌, take, drop, length, get_or, refl, arith, length-drop, length-take}
use borrow.Rule.Slice.PartMut.{put_mid}
use Rattle.exploration.specs.declared.pairs.Connective.TheVariants.{Or, And}
use Rattle.patterns.specs.Patterns.{nothing, empty, range, star}
use Rattle.patterns.specs.Sizes.{Fits}
use Rattle.patterns.proofs.Matching.{node_kind}
use Rattle.patterns.proofs.Extents.{node_later, end_none, by_leaf, by_one}
use Rattle.making.specs.declared.binary.Binary.TheVariants.{Followed, Connected}
use Rattle.making.specs.Working.{Done, DoneSays}
use Rattle.making.proofs.Standing.{ordered, turns, second_place, one_workable, two_workable, two_worked, says_done, refused, two_done, combined, turned_done}
use Rattle.making.proofs.work_out.+working.Goals as goal

-- two parts
pub two_parts-offset_bounds-plan-next : goal.two_parts-offset_bounds-plan-next
two_parts-offset_bounds-plan-next t c = let h = second_place c.args.plan.planned.measured c.requires.here in omega (arith, c.args.plan.planned.ends_long, c.args.plan.planned.short)

pub two_parts-bounds-plan-next : goal.two_parts-bounds-plan-next
two_parts-bounds-plan-next t c = let h = second_place c.args.plan.planned.measured c.requires.here in omega (arith, c.args.plan.planned.ends_long)

pub two_parts-offset_bounds-tables-next : goal.two_parts-offset_bounds-tables-next
two_parts-offset_bounds-tables-next t c = let h = second_place c.args.plan.planned.measured c.requires.here in omega (arith, c.args.plan.planned.short)

pub two_parts-bounds-tables-next : goal.two_parts-bounds-tables-next
two_parts-bounds-tables-next t c = let h = second_place c.args.plan.planned.measured c.requires.here in omega (arith, c.args.plan.planned.tables_long)

pub two_parts-bounds-tables-second : goal.two_parts-bounds-tables-second
two_parts-bounds-tables-second t c = let h = second_place c.args.plan.planned.measured c.requires.here in omega (arith, c.args.plan.planned.tables_long)

pub two_parts-work_out_in-requires : goal.two_parts-work_out_in-requires
two_parts-work_out_in-requires t c =
    let order = c.by_tables-order in
    let T = turns order.result c.requires.here (ordered c.args.plan.planned.measured order.result c.arrange-one.result order.ensures c.arrange-one.ensures) in
    (omega (arith, c.decreases, T.first_on), (c.requires.room, T.first))

pub two_parts-work_out_in-requires-2 : goal.two_parts-work_out_in-requires-2
two_parts-work_out_in-requires-2 t c =
    let order = c.by_tables-order in
    let T = turns order.result c.requires.here (ordered c.args.plan.planned.measured order.result c.arrange-one.result order.ensures c.arrange-one.ensures) in
    let behind = 257 * c.args.most in
    let stack = c.work_out_in.new.stack in
    let e : length (take (length stack - behind) (drop behind stack)) ≡ length c.args.stack.now - behind =
    omega (arith, length-take (length stack - behind) (drop behind stack), length-drop behind stack, c.work_out_in.auto.stack) in (
      omega (arith, c.decreases, T.second_on),
      (record { small = c.requires.room.small; tables = omega (arith, e, T.kept); raw = rw c.work_out_in.auto.raw c.requires.room.raw; block = rw c.work_out_in.auto.block c.requires.room.block; work = rw c.work_out_in.auto.work c.requires.room.work }, rw e T.second),
    )

pub two_parts-combine-requires : goal.two_parts-combine-requires
two_parts-combine-requires t c =
    let order = c.by_tables-order in
    let W = c.requires.here in
    let both = two_done (λ (b : ℕ). get_or c.args.plan.columns.column.now b 0) c.args.plan.columns.count c.args.most c.in_ok-ones.ones c.in_ok-others.others c.work_out_in.new.stack c.work_out_in-2.new.stack
    order.result c.arrange.result c.args.plan.columns.sound (omega (arith, c.requires.room.tables, c.work_out_in.auto.stack))
    (ordered c.args.plan.planned.measured order.result c.arrange-one.result order.ensures c.arrange-one.ensures) c.arrange.ensures
    c.in_ok-ones.ensures c.in_ok-others.ensures W.left W.right W.mid W.stop W.first W.second in
    record { room = search rules; first = both.0.inside; second = both.1.inside; few = both.1.few }

pub two_parts-returns : goal.two_parts-returns
two_parts-returns t c p q mid stop h g =
    let order = c.by_tables-order in
    let column : ℕ → ℕ = λ b. get_or c.args.plan.columns.column.now b 0 in
    let count = c.args.plan.columns.count in
    let stack = c.work_out_in.new.stack in
    let behind = 257 * c.args.most in
    combined column count c.arrange.result.0 c.arrange.result.1 c.args.most (put_mid behind (length stack - behind) stack c.work_out_in-2.new.stack) c.combine.new.stack p q c.args.kind c.combine.result
    c.combine.ensures
    (two_done column count c.args.most c.in_ok-ones.ones c.in_ok-others.others stack c.work_out_in-2.new.stack
    order.result c.arrange.result c.args.plan.columns.sound (omega (arith, c.requires.room.tables, c.work_out_in.auto.stack))
    (ordered c.args.plan.planned.measured order.result c.arrange-one.result order.ensures c.arrange-one.ensures) c.arrange.ensures
    c.in_ok-ones.ensures c.in_ok-others.ensures p q mid stop h g)

-- a pattern
pub work_out_in-unreachable-requires : goal.work_out_in-unreachable-requires
work_out_in-unreachable-requires t c = end_none c.in_default.ensures c.requires.here.pattern c.requires.here.stop c.requires.here.here

pub work_out_in-returns-in-Nothing : goal.work_out_in-returns-in-Nothing
work_out_in-returns-in-Nothing t c =
    let column : ℕ → ℕ = λ b. get_or c.args.plan.columns.column.now b 0 in
    let count = c.args.plan.columns.count in
    let k = node_kind c.width.result c.in-Some.ensures c.width.ensures c.in-Nothing.is in
    by_leaf k (λ p. DoneSays column count p c.args.most c.leaf_in.new.tables c.leaf_in.result) refl
    (says_done column count c.args.most c.leaf_in.new.tables nothing c.leaf_in.result (λ f. f) (λ f. f) c.leaf_in.ensures)

pub work_out_in-returns-in-Empty : goal.work_out_in-returns-in-Empty
work_out_in-returns-in-Empty t c =
    let column : ℕ → ℕ = λ b. get_or c.args.plan.columns.column.now b 0 in
    let count = c.args.plan.columns.count in
    let k = node_kind c.width.result c.in-Some.ensures c.width.ensures c.in-Empty.is in
    by_leaf k (λ p. DoneSays column count p c.args.most c.leaf_in-in-Empty.new.tables c.leaf_in-in-Empty.result) refl
    (says_done column count c.args.most c.leaf_in-in-Empty.new.tables empty c.leaf_in-in-Empty.result (λ f. f) (λ f. f) c.leaf_in-in-Empty.ensures)

pub work_out_in-returns-in-Range : goal.work_out_in-returns-in-Range
work_out_in-returns-in-Range t c =
    let column : ℕ → ℕ = λ b. get_or c.args.plan.columns.column.now b 0 in
    let count = c.args.plan.columns.count in
    let k = node_kind c.width.result c.in-Some.ensures c.width.ensures c.in-Range.is in
    by_leaf k (λ p. DoneSays column count p c.args.most c.leaf_in-in-Range.new.tables c.leaf_in-in-Range.result) refl
    (says_done column count c.args.most c.leaf_in-in-Range.new.tables (range c.in-Range.low c.in-Range.high) c.leaf_in-in-Range.result (λ f. f) (λ f. f) c.leaf_in-in-Range.ensures)

pub work_out_in-work_out_in-requires : goal.work_out_in-work_out_in-requires
work_out_in-work_out_in-requires t c =
    let k = node_kind c.width.result c.in-Some.ensures c.width.ensures c.in-Complement.is in
    (omega (arith, c.decreases, node_later k), (c.requires.room, one_workable k refl c.requires.here))

pub work_out_in-returns-in_err-rows-in-Complement : goal.work_out_in-returns-in_err-rows-in-Complement
work_out_in-returns-in_err-rows-in-Complement t c =
    let k = node_kind c.width.result c.in-Some.ensures c.width.ensures c.in-Complement.is in
    refused _ _ _ c.from_residual.ensures (by_one k (λ p. Fits c.args.most p → ⊥) refl (λ a stop h f. c.in_err-rows-in-Complement.ensures a stop h f))

pub work_out_in-complement-requires : goal.work_out_in-complement-requires
work_out_in-complement-requires t c =
    let k = node_kind c.width.result c.in-Some.ensures c.width.ensures c.in-Complement.is in
    let W = one_workable k refl c.requires.here in
    let D = c.in_ok-rows-in-Complement.ensures W.pattern W.stop W.here in
    omega (arith, D.inside.long)

pub work_out_in-returns-in_ok-rows-in-Complement : goal.work_out_in-returns-in_ok-rows-in-Complement
work_out_in-returns-in_ok-rows-in-Complement t c =
    let column : ℕ → ℕ = λ b. get_or c.args.plan.columns.column.now b 0 in
    let count = c.args.plan.columns.count in
    let k = node_kind c.width.result c.in-Some.ensures c.width.ensures c.in-Complement.is in
    by_one k (λ p. Done column count p c.args.most c.in_ok-rows-in-Complement.rows c.complement.new.tables) refl
    (λ a stop h. turned_done c.args.plan.columns.sound (c.in_ok-rows-in-Complement.ensures a stop h) c.complement.ensures)

pub work_out_in-work_out_in-requires-in-Star : goal.work_out_in-work_out_in-requires-in-Star
work_out_in-work_out_in-requires-in-Star t c =
    let k = node_kind c.width.result c.in-Some.ensures c.width.ensures c.in-Star.is in
    (omega (arith, c.decreases, node_later k), (c.requires.room, one_workable k refl c.requires.here))

pub work_out_in-returns-in_err-rows-in-Star : goal.work_out_in-returns-in_err-rows-in-Star
work_out_in-returns-in_err-rows-in-Star t c =
    let k = node_kind c.width.result c.in-Some.ensures c.width.ensures c.in-Star.is in
    refused _ _ _ c.from_residual-in_err-rows-in-Star.ensures (by_one k (λ p. Fits c.args.most p → ⊥) refl (λ a stop h f. c.in_err-rows-in-Star.ensures a stop h f.0))

pub work_out_in-repetition_in-requires-clause-part : goal.work_out_in-repetition_in-requires-clause-part
work_out_in-repetition_in-requires-clause-part t c =
    let k = node_kind c.width.result c.in-Some.ensures c.width.ensures c.in-Star.is in
    let W = one_workable k refl c.requires.here in
    (c.in_ok-rows-in-Star.ensures W.pattern W.stop W.here).inside

pub work_out_in-repetition_in-requires-clause-few : goal.work_out_in-repetition_in-requires-clause-few
work_out_in-repetition_in-requires-clause-few t c =
    let k = node_kind c.width.result c.in-Some.ensures c.width.ensures c.in-Star.is in
    let W = one_workable k refl c.requires.here in
    (c.in_ok-rows-in-Star.ensures W.pattern W.stop W.here).few

pub work_out_in-returns-in_ok-rows-in-Star : goal.work_out_in-returns-in_ok-rows-in-Star
work_out_in-returns-in_ok-rows-in-Star t c =
    let column : ℕ → ℕ = λ b. get_or c.args.plan.columns.column.now b 0 in
    let count = c.args.plan.columns.count in
    let k = node_kind c.width.result c.in-Some.ensures c.width.ensures c.in-Star.is in
    by_one k (λ p. DoneSays column count p c.args.most c.repetition_in.new.tables c.repetition_in.result) refl
    (λ a stop h. let D = c.in_ok-rows-in-Star.ensures a stop h in
    says_done column count c.args.most c.repetition_in.new.tables (star a) c.repetition_in.result (λ f. f.1) (λ f. (D.fits, f)) (c.repetition_in.ensures a D.finished))

pub work_out_in-two_parts-requires : goal.work_out_in-two_parts-requires
work_out_in-two_parts-requires t c =
    let k = node_kind c.width.result c.in-Some.ensures c.width.ensures c.in-Sequence.is in
    (omega (arith, c.decreases, node_later k), (c.requires.room, two_workable Followed k c.requires.here))

pub work_out_in-returns-in-Sequence : goal.work_out_in-returns-in-Sequence
work_out_in-returns-in-Sequence t c =
    let k = node_kind c.width.result c.in-Some.ensures c.width.ensures c.in-Sequence.is in
    two_worked Followed k (λ b. get_or c.args.plan.columns.column.now b 0) c.args.plan.columns.count c.args.most c.two_parts.new.stack c.two_parts.result c.two_parts.ensures

pub work_out_in-two_parts-requires-in-Union : goal.work_out_in-two_parts-requires-in-Union
work_out_in-two_parts-requires-in-Union t c =
    let k = node_kind c.width.result c.in-Some.ensures c.width.ensures c.in-Union.is in
    (omega (arith, c.decreases, node_later k), (c.requires.room, two_workable (Connected Or) k c.requires.here))

pub work_out_in-returns-in-Union : goal.work_out_in-returns-in-Union
work_out_in-returns-in-Union t c =
    let k = node_kind c.width.result c.in-Some.ensures c.width.ensures c.in-Union.is in
    two_worked (Connected Or) k (λ b. get_or c.args.plan.columns.column.now b 0) c.args.plan.columns.count c.args.most c.two_parts-in-Union.new.stack c.two_parts-in-Union.result c.two_parts-in-Union.ensures

pub work_out_in-two_parts-requires-in-Intersection : goal.work_out_in-two_parts-requires-in-Intersection
work_out_in-two_parts-requires-in-Intersection t c =
    let k = node_kind c.width.result c.in-Some.ensures c.width.ensures c.in-Intersection.is in
    (omega (arith, c.decreases, node_later k), (c.requires.room, two_workable (Connected And) k c.requires.here))

pub work_out_in-returns-in-Intersection : goal.work_out_in-returns-in-Intersection
work_out_in-returns-in-Intersection t c =
    let k = node_kind c.width.result c.in-Some.ensures c.width.ensures c.in-Intersection.is in
    two_worked (Connected And) k (λ b. get_or c.args.plan.columns.column.now b 0) c.args.plan.columns.count c.args.most c.two_parts-in-Intersection.new.stack c.two_parts-in-Intersection.result c.two_parts-in-Intersection.ensures
