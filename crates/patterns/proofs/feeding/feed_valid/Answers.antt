use Rattle.std.proofs.Common.{refl}
use Rattle.machines.proofs.Cells.{inside_sound}
use Rattle.patterns.proofs.feeding.feed_valid.Goals as goal

pub returns-then-ends-piece : goal.returns-then-ends-piece
returns-then-ends-piece c = (inside_sound _ _ c.args.table.long c.args.table.inside, c.requires, c.if-ends-piece.true, refl)

pub returns : goal.returns
returns c = (inside_sound _ _ c.args.table.long c.args.table.inside, c.requires, c.feed.ensures.after, c.feed.ensures.bits, c.feed.ensures.rest)
