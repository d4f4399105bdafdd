use Rattle.std.proofs.Common.{◌≡◌, ℕ, ◌+◌, ◌*◌, ◌^◌, ◌%◌, ◌<◌, Bool, sym, ap, ◌∙◌, subst, arith}
use mathlib.Core.Logic.{inl}
use lib.Bits.{bit_or}
use Rattle.patterns.specs.Searching.{bit}
use Rattle.patterns.proofs.Ending.{collecting_start, collecting_here, collecting_turn, collecting_end, bit_added, bit_left}
use Rattle.patterns.proofs.direct.bits_after.Goals as goal

pub loop-index-init : goal.loop-index-init
loop-index-init c =
    let same = c.into_iter-index-iterator.ensures.into_iter_gives in
    let i = ap (λ e. e.iter) same ∙ c.enumerate-index-items.ensures.source in
    let list = ap (λ p. p.list.now) i ∙ c.new.ensures.0 in
    let w = collecting_start c.args.text.now c.into_iter-index-iterator.result.iter c.into_iter-index-iterator.result.count list (ap (λ p. p.at) i ∙ c.new.ensures.1)
    (ap (λ e. e.count) same ∙ c.enumerate-index-items.ensures.count) c.requires in
    ((w.0, tt, inl w.1), tt, list, w.2)

pub ends_after-requires : goal.ends_after-requires
ends_after-requires c = (collecting_here _ _ _ c.loop-index.invariant.2 c.loop-index.invariant.3 c.in-Some.ensures.steps.0).1

pub overflow_shl-bits : goal.overflow_shl-bits
overflow_shl-bits c = omega (arith, c.in-Some.ensures.steps.1, (collecting_here _ _ _ c.loop-index.invariant.2 c.loop-index.invariant.3 c.in-Some.ensures.steps.0).0)

with_bit : (bits index : ℕ) {x y : Bool} → x ≡ y → bits + bit x * 2 ^ index ≡ bits + bit y * 2 ^ index
with_bit bits index e = ap (λ x. bits + bit x * 2 ^ index) e

pub loop-index-preserved-then-ends_after : goal.loop-index-preserved-then-ends_after
loop-index-preserved-then-ends_after c =
    let s = c.in-Some.ensures.steps in
    let inv = c.loop-index.invariant in
    let k = c.in-Some.index in
    let few = (collecting_here _ _ _ inv.2 inv.3 s.0).0 in
    let small : c.loop-index.bits < 2 ^ k = subst (λ (n : ℕ). c.loop-index.bits < 2 ^ n) (sym s.1) inv.3.small in
    let t = collecting_turn (bit_or c.loop-index.bits ((1 * 2 ^ k) % 2 ^ 32)) c.ends_after.result _ _ _ _ _ inv.2 inv.3 s.0 c.ends_after.ensures s.1 s.2
    (bit_added c.loop-index.bits k small (omega (arith, s.1)) ∙ with_bit c.loop-index.bits k (sym c.if-ends_after.true)) in
    (c.in-Some.ensures.goes.keeps, tt, t.0, t.1)

pub loop-index-preserved : goal.loop-index-preserved
loop-index-preserved c =
    let s = c.in-Some.ensures.steps in
    let t = collecting_turn c.loop-index.bits c.ends_after.result _ _ _ _ _ c.loop-index.invariant.2 c.loop-index.invariant.3 s.0 c.ends_after.ensures s.1 s.2
    (bit_left c.loop-index.bits c.in-Some.index ∙ with_bit c.loop-index.bits c.in-Some.index (sym c.if-ends_after.false)) in
    (c.in-Some.ensures.goes.keeps, tt, t.0, t.1)

pub returns : goal.returns
returns c = collecting_end _ _ c.loop-index.invariant.2 c.loop-index.invariant.3 c.in-None.ensures.steps.0
