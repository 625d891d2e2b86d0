-- The start of a program.
use Rattle.std.proofs.Common.{ap, []}
use Rattle.jack_machine.specs.Machine.{the_stack}
use Rattle.jack_machine.specs.declared.looking.Memory.{Memory}
use Rattle.jack_core.specs.Texts.{the_program}
use Rattle.jack_machine.specs.Frames.{the_frame}
use Rattle.jack_machine.specs.Machine.{start_frame}
use Rattle.jack_machine.proofs.Reaching.{same_reached, start_reached}
use Rattle.jack_machine.proofs.Histories.{start_state}
use Rattle.jack_machine.proofs.jack.Jack.new.Goals as goal

pub returns-clause-start : goal.returns-clause-start
returns-clause-start c =
    let memory : Memory = record { statics = c.in_ok-statics.statics; words = c.in_ok-words.words } in
    let statics = rw c.deref.ensures.value at c.in_ok-statics.ensures in
    start_state c.args.core.now c.first_frame.result memory (the_stack c.new.result.items) c.first_frame.ensures statics (c.in_ok-words.ensures.items_if_clones_equal (λ y h. h)) (ap the_stack c.new.ensures.items)

pub returns-clause-stands : goal.returns-clause-stands
returns-clause-stands c =
    let memory : Memory = record { statics = c.in_ok-statics.statics; words = c.in_ok-words.words } in
    let statics = rw c.deref.ensures.value at c.in_ok-statics.ensures in
    start_state c.args.core.now c.first_frame.result memory (the_stack c.new.result.items) c.first_frame.ensures statics (c.in_ok-words.ensures.items_if_clones_equal (λ y h. h)) (ap the_stack c.new.ensures.items)

pub invariant_of-result : goal.invariant_of-result
invariant_of-result c =
    let program = the_program c.args.core.now in record {
      there = c.requires.there;
      reached = ∣ same_reached program (start_frame c.args.core.now.init) (the_frame c.first_frame.result) [] (the_stack c.new.result.items) (start_reached program c.requires.there) c.first_frame.ensures (ap the_stack c.new.ensures.items) ∣₁;
    }
