use Rattle.std.proofs.Common.{refl, arith}
use Rattle.trials.proofs.exploring.ThirdsSystem.columns.Goals as goal

pub returns : goal.returns
returns c = record {
  is = refl;
  columns = record {
    few = omega arith;
    within = λ b h. omega arith;
    byte = λ j h. omega arith;
    back = λ j h. omega arith;
    low = λ b h. omega arith;
    up = λ i j h k. omega arith;
  };
}
