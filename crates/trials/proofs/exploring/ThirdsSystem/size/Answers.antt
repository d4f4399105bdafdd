use Rattle.std.proofs.Common.{◌+◌, ◌%◌, [], ◌∷◌, get_or, refl, ap, arith}
use Rattle.trials.proofs.exploring.ThirdsSystem.size.Goals as goal

pub returns : goal.returns
returns c = record {
  is = refl;
  lawful = record {
    starts = (refl, omega arith);
    stays = λ k b g h. (refl, omega arith);
    wide = λ k g. g.0;
    alike = λ k b g h. ap (λ z. (get_or k 0 0 + z) % 3 ∷ []) (omega arith);
  };
}
