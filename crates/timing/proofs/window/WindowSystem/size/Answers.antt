use Rattle.std.proofs.Common.{ℕ, ◌+◌, ◌*◌, ◌/◌, ◌<◌, [], ◌∷◌, get_or, refl, ap, arith}
use Rattle.std.proofs.lemmas.Bool.Decides.{nat_tests}
use Rattle.timing.specs.Windows.{wrap}
use Rattle.timing.proofs.window.WindowSystem.size.Goals as goal

pub returns : goal.returns
returns c =
    let m = c.args.self.now.size in
    record {
      is = refl;
      lawful = record {
        starts = (refl, c.args.self.now.some);
        stays = λ k b g h. (refl, wrap_below m (get_or k 0 0) (b / 128) g.1 (omega arith));
        wide = λ k g. g.0;
        alike = λ k b g h. ap (λ z. wrap m (2 * get_or k 0 0 + z) ∷ []) (omega arith);
      };
    }
  where
    wrap_below : (m k x : ℕ) → k < m → x < 2 → wrap m (2 * k + x) < m
    wrap_below m k x h l = grind (arith, nat_tests)
