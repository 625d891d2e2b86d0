-- The vector gets the part after its parts.
use Rattle.jack_names.proofs.Pushing.{puts}
use Rattle.jack_names.proofs.meant.push_part.Goals as goal

pub returns : goal.returns
returns c = puts c.args.part c.args.parts.now.items c.push.new.self.items c.in_ok-push.ensures.items
