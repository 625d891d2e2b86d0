-- A part that is next has its operands.
use Rattle.jack_machine.proofs.Fitting.{has_operands}
use Rattle.jack_machine.proofs.frames.look.Goals as goal

pub look_at-requires : goal.look_at-requires
look_at-requires c =
    let values = c.deref.ensures.value in
    rw values (has_operands c.args.top.now.text.front c.args.part c.requires)
