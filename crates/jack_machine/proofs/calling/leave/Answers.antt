-- The last frame of the vector is the caller.
use Rattle.std.proofs.Common.{ap, ◌∙◌}
use Rattle.jack_machine.specs.Frames.{with_text, the_waiting_frame}
use Rattle.jack_machine.specs.Machine.{the_stack}
use Rattle.jack_machine.specs.Texts.{the_after}
use Rattle.jack_machine.proofs.Stacks.{stack_more}
use Rattle.jack_machine.proofs.Tops.{fill_text}
use Rattle.jack_machine.proofs.calling.leave.Goals as goal

pub returns-in-Some : goal.returns-in-Some
returns-in-Some c =
    let caller = c.in-Some.caller in (
      the_waiting_frame caller,
      ap the_stack c.in-Some.ensures.items ∙ stack_more c.pop.new.self.items caller,
      ap (with_text caller) (fill_text c.args.w caller.text.front c.fill.new.front (the_after caller.text.after.items) c.fill.ensures),
    )
