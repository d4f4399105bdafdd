use Rattle.std.proofs.Common.{◌≡◌, ℕ, List, set, sym, subst, arith, length-set}
use Rattle.plans.specs.Dividing.{Divided}
use Rattle.plans.proofs.Dividing.{divided_on, divided_cut}
use Rattle.plans.proofs.columns.number_bytes.Goals as goal
use Rattle.plans.proofs.columns.number_bytes.Goals.{then-cuts-b-ne0, else-cuts-b-ne0}

-- the values where the two ways meet
is : (column : List ℕ) (b : ℕ) {cuts least v : List ℕ} {j k n : ℕ} → k ≡ j → v ≡ least → Divided cuts (set column b j) least j n → Divided cuts (set column b k) v k n
is column b {cuts = cuts} {least = least} {k = k} {n = n} e d D =
    subst (λ z. Divided cuts (set column b k) z k n) (sym d) (subst (λ z. Divided cuts (set column b z) least z n) (sym e) D)

pub loop-b-preserved : goal.loop-b-preserved
loop-b-preserved c =
    elim c.if-cuts-b-ne0.branch [
      | then-cuts-b-ne0 w ↦ is c.loop-b.column c.loop-b.b w.j-is w.least-is (divided_cut c.loop-b.invariant (omega (arith, length-set c.args.column.now 0 0)) (omega (arith, length-set c.args.least.now 0 0, c.loop-b.invariant.few)))
      | else-cuts-b-ne0 w ↦ is c.loop-b.column c.loop-b.b w.j-is w.least-is (divided_on c.loop-b.invariant (omega (arith, length-set c.args.column.now 0 0)) w.if-cuts-b-ne0.false)
    ]
