use Rattle.std.proofs.Common.{rules}
use Rattle.machines.proofs.Pieces.{pieces}
use Rattle.patterns.proofs.FedPieces.{fed_moved, in_pieces}
use Rattle.patterns.proofs.feeding.feed.Goals as goal

pub returns-then-not-is_table : goal.returns-then-not-is_table
returns-then-not-is_table c = record { says = search rules; pieces = pieces; fed = in_pieces }

pub returns : goal.returns
returns c = record {
  says = fed_moved c.new.ensures.0 c.new.ensures.1 c.args.row c.args.piece.now c.args.ends.now c.feed_valid.new.ends c.feed_valid.result c.feed_valid.ensures;
  pieces = pieces;
  fed = in_pieces;
}
