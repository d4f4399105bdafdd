use Rattle.exploration.proofs.keys.put.Goals as goal
use Rattle.exploration.proofs.Puts.{put_kept}

pub returns : goal.returns
returns c = put_kept c.args.keys.now c.args.key.now c.copy_from_slice.new.self c.args.size c.args.i _ c.requires.0 c.copy_from_slice.ensures.after c.requires.1
