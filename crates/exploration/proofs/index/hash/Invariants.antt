use Rattle.std.proofs.Common.{◌≡◌, ◌^◌, ◌<◌, drop}
use Rattle.exploration.specs.Hashed.{hashed}
use Rattle.exploration.proofs.index.hash.Given as goal

abbrev pub invariant-loop-w : goal.invariant-loop-w
invariant-loop-w l = (l.h < 2 ^ 32) × (hashed l.h (drop l.w-index l.key) ≡ hashed 0 l.key)
