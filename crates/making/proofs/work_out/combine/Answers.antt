use Rattle.std.proofs.Common.{ℕ, sym, subst, get_or}
use Rattle.parts.specs.Combining.{Combines}
use Rattle.making.specs.declared.binary.Binary.{Binary}
use Rattle.making.specs.Working.{over}
use Rattle.making.proofs.work_out.combine.Goals as goal

pub returns-in-Followed : goal.returns-in-Followed
returns-in-Followed c =
    subst (λ (m : Binary). Combines (over m) (λ (b : ℕ). get_or c.args.columns.column.now b 0) c.args.columns.count c.args.first c.args.second c.args.most c.args.stack.now c.sequence_in.new.tables c.sequence_in.result)
    (sym c.in-Followed.is) c.sequence_in.ensures

pub returns-in-Connected : goal.returns-in-Connected
returns-in-Connected c =
    subst (λ (m : Binary). Combines (over m) (λ (b : ℕ). get_or c.args.columns.column.now b 0) c.args.columns.count c.args.first c.args.second c.args.most c.args.stack.now c.connect_in.new.tables c.connect_in.result)
    (sym c.in-Connected.is) c.connect_in.ensures
