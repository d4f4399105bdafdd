use Rattle.std.proofs.Common.{◌≡◌, ℕ, List, sym, subst, arith}
use Rattle.refinement.specs.Refining.{at}
use Rattle.refinement.specs.Joining.{Numbering}
use Rattle.refinement.proofs.Quotients.{numbering_new, numbering_old}
use Rattle.refinement.proofs.quotient.number.Goals as goal
use Rattle.refinement.proofs.quotient.number.Goals.{then-first-i, else-first-i}

-- the values where the two ways meet
is : {k n m : ℕ} {B : ℕ → ℕ} {s v : List ℕ} → m ≡ n → v ≡ s → Numbering k n B (at s) → Numbering k m B (at v)
is {k} {n} {m} {B} {s} {v} e d M = subst (λ z. Numbering k m B (at z)) (sym d) (subst (λ z. Numbering k z B (at s)) (sym e) M)

pub loop-i-preserved : goal.loop-i-preserved
loop-i-preserved c =
    elim c.if-first-i.branch [
      | then-first-i w ↦ is w.count-is w.names-is (numbering_new _ _ c.requires.firsts _ _ _ c.loop-i-test.true (omega arith) c.loop-i.invariant w.if-first-i.true)
      | else-first-i w ↦ is w.count-is w.names-is (numbering_old _ _ c.requires.firsts _ _ _ c.loop-i-test.true (omega arith) c.loop-i.invariant w.if-first-i.false)
    ]
