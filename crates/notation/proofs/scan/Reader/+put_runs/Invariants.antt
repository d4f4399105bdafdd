use Rattle.std.proofs.Common.{◌-◌}
use Rattle.notation.proofs.scan.Reader.+put_runs.Given as goal

abbrev pub decreases-put_runs : goal.decreases-put_runs
decreases-put_runs l = 256 - l.low
