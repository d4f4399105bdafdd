use Rattle.machines.proofs.Pieces.{joins}
use Rattle.machines.proofs.stream.Stream.feed.Goals as goal

pub returns-clause-joins : goal.returns-clause-joins
returns-clause-joins c = joins _ _ _ _ _ _ c.feed-self.ensures.after c.feed-self.ensures.bits
