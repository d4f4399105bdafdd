use Rattle.listing.proofs.Joining.{joined}
use Rattle.listing.proofs.join.join_pattern.Goals as goal

pub returns : goal.returns
returns c = record {
  says = joined _ _ _ _ _ _ 2 _ _ _ _ _ c.requires.index c.explore.ensures.says;
  rest = c.explore.ensures.rest;
}
