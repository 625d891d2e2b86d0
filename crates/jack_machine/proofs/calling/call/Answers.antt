-- The caller waits below the new frame, with its call open.
use Rattle.std.proofs.Common.{[], ◌∷◌, ◌++◌, ap, ◌∙◌}
use Rattle.jack_machine.specs.Frames.{with_text, the_waiting_frame}
use Rattle.jack_machine.specs.Machine.{the_stack}
use Rattle.jack_machine.specs.Texts.{the_after}
use Rattle.jack_machine.proofs.Stacks.{stack_more}
use Rattle.jack_machine.proofs.Tops.{put_waiting}
use Rattle.jack_machine.proofs.calling.call.Goals as goal

pub returns-clause-done : goal.returns-clause-done
returns-clause-done c =
    let top = c.args.top.now in
    let below = c.args.below.now.items in
    let items = c.push_reserved.ensures.items ∙ ap (λ l. l ++ c.replace-caller.result ∷ []) c.reserve.ensures.items in
    let frame = ap the_waiting_frame c.replace-caller.ensures.value ∙ ap (with_text top) (put_waiting c.args.part 0 top.text.front c.put.new.front c.in_ok-put.ensures.done (the_after top.text.after.items)) in record {
      on_top = c.replace-caller.ensures.after;
      waiting = ap the_stack items ∙ stack_more below c.replace-caller.result ∙ ap (λ f. f ∷ the_stack below) frame;
    }
