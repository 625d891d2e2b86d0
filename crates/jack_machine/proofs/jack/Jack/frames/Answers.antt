-- The frames that wait are as many as the vector has.
use Rattle.std.proofs.Common.{map, arith}
use Rattle.std.proofs.lemmas.List.{length-map, length-reverse}
use Rattle.jack_machine.specs.Frames.{the_waiting_frame}
use Rattle.jack_machine.proofs.jack.Jack.frames.Goals as goal

pub returns-clause-frames : goal.returns-clause-frames
returns-clause-frames c =
    let items = c.args.self.now.below.items in
    omega (arith, length-reverse (map the_waiting_frame items), length-map items the_waiting_frame)
