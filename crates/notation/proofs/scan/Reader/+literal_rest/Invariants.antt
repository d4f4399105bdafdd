use Rattle.std.proofs.Common.{◌-◌, length}
use Rattle.notation.proofs.scan.Reader.+literal_rest.Given as goal

abbrev pub decreases-literal_rest : goal.decreases-literal_rest
decreases-literal_rest l = length l.self.now.text.now - l.self.now.at
