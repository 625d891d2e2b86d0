-- The step, by what the top frame did.
use Rattle.std.proofs.Common.{true, false, refl, sym, ap, ◌∙◌, subst}
use Rattle.std.proofs.Math.Logic.{∥∥₁_map}
use Rattle.jack_meaning.specs.Meaning.{Acts, after_return}
use Rattle.jack_core.specs.Texts.{the_program, the_subroutines}
use Rattle.jack_core.specs.declared.tree.Part.TheVariants as part
use Rattle.jack_machine.specs.Frames.{the_frame, the_state, called_state, IsNext}
use Rattle.jack_machine.specs.Machine.{the_stack}
use Rattle.jack_machine.specs.Whole.{IsSame, jack_state}
use Rattle.jack_machine.specs.Inner.Reached.{AreReached}
use Rattle.jack_machine.proofs.Reaching.{same_reached, step_reached}
use Rattle.jack_machine.proofs.Tops.{left_state, left_called, returned_to, on_err}
use Rattle.jack_machine.proofs.jack.Jack.make_step.Goals as goal

pub returns-in-Acted-clause-step : goal.returns-in-Acted-clause-step
returns-in-Acted-clause-step c =
    let j = c.args.self.now in
    (false, rw c.in-Acted.is at (c.in_ok-step_top.ensures.done (the_subroutines j.core.now) (the_stack j.below.items)))

pub returns-in-Heard-clause-step : goal.returns-in-Heard-clause-step
returns-in-Heard-clause-step c =
    let j = c.args.self.now in
    (true, rw c.in-Heard.is at (c.in_ok-step_top.ensures.done (the_subroutines j.core.now) (the_stack j.below.items)))

pub make_call-requires-clause-next : goal.make_call-requires-clause-next
make_call-requires-clause-next c =
    let j = c.args.self.now in
    let t = rw c.in-Calls.is at (c.in_ok-step_top.ensures.done (the_subroutines j.core.now) (the_stack j.below.items)) in
    subst (IsNext (part.Call c.in-Calls.n c.in-Calls.g)) (sym t.2.0) t.1

pub make_call-requires-clause-reached : goal.make_call-requires-clause-reached
make_call-requires-clause-reached c =
    let j = c.args.self.now in
    let subs = the_subroutines j.core.now in
    let below = the_stack j.below.items in
    let t = rw c.in-Calls.is at (c.in_ok-step_top.ensures.done subs below) in
    ∥∥₁_map j.reached
    (λ h. subst (λ s. AreReached (the_program j.core.now) s.frames) (left_called subs j.top c.step_top.new.top j.memory c.step_top.new.memory below c.in-Calls.g c.in-Calls.n t.2)
    (step_reached (the_program j.core.now) j.there c.args.key (jack_state j) (called_state subs j.top j.memory below c.in-Calls.g c.in-Calls.n) false h t.0))

pub returns-in_ok-make_call-in-Calls-clause-step : goal.returns-in_ok-make_call-in-Calls-clause-step
returns-in_ok-make_call-in-Calls-clause-step c =
    let j = c.args.self.now in
    let subs = the_subroutines j.core.now in
    let below = the_stack j.below.items in
    let t = rw c.in-Calls.is at (c.in_ok-step_top.ensures.done subs below) in (
      false,
      t.0 ∙ ap (Acts false) (left_called subs j.top c.step_top.new.top j.memory c.step_top.new.memory below c.in-Calls.g c.in-Calls.n t.2 ∙ sym c.in_ok-make_call-in-Calls.ensures.done),
    )

pub returns-in_err-make_call-in-Calls-clause-refused : goal.returns-in_err-make_call-in-Calls-clause-refused
returns-in_err-make_call-in-Calls-clause-refused c =
    let j = c.args.self.now in
    let below = the_stack j.below.items in
    let t = rw c.in-Calls.is at (c.in_ok-step_top.ensures.done (the_subroutines j.core.now) below) in
    let same : IsSame j c.make_call.new.self = c.in_err-make_call-in-Calls.ensures.refused ∙ left_state j.top c.step_top.new.top j.memory c.step_top.new.memory below t.2 in
    on_err _ (IsSame j c.make_call.new.self) same

pub returns-else-not-leave-clause-step : goal.returns-else-not-leave-clause-step
returns-else-not-leave-clause-step c =
    let j = c.args.self.now in
    let below = the_stack j.below.items in
    let t = rw c.in-Returns.is at (c.in_ok-step_top.ensures.done (the_subroutines j.core.now) below) in
    let l = rw c.if-not-leave.false at c.leave.ensures in
    (false, t.0 ∙ returned_to j.top c.leave.new.top j.memory c.step_top.new.memory below (the_stack c.leave.new.below.items) l.0 c.in-Returns.w t.1.1 l.1 l.2)

pub returns-then-not-leave-clause-step : goal.returns-then-not-leave-clause-step
returns-then-not-leave-clause-step c =
    let j = c.args.self.now in
    let below = the_stack j.below.items in
    let memory = c.step_top.new.memory in
    let t = rw c.in-Returns.is at (c.in_ok-step_top.ensures.done (the_subroutines j.core.now) below) in
    let l = rw c.if-not-leave.true at c.leave.ensures in (
      t.0 ∙ ap (λ b. after_return (the_state j.top j.memory below) b c.in-Returns.w) l.0,
      ap (λ b. the_state c.leave.new.top memory b) (l.1 ∙ sym l.0) ∙ ap (λ f. the_state f memory below) l.2 ∙ left_state j.top c.step_top.new.top j.memory memory below t.1,
    )

pub returns-in-Strays-clause-step : goal.returns-in-Strays-clause-step
returns-in-Strays-clause-step c =
    let j = c.args.self.now in
    let below = the_stack j.below.items in
    let t = rw c.in-Strays.is at (c.in_ok-step_top.ensures.done (the_subroutines j.core.now) below) in
    (t.0, left_state j.top c.step_top.new.top j.memory c.step_top.new.memory below t.1)

pub returns-in-Done-clause-step : goal.returns-in-Done-clause-step
returns-in-Done-clause-step c =
    let j = c.args.self.now in
    let below = the_stack j.below.items in
    let t = rw c.in-Done.is at (c.in_ok-step_top.ensures.done (the_subroutines j.core.now) below) in
    (t.0, left_state j.top c.step_top.new.top j.memory c.step_top.new.memory below t.1)

pub invariant_of-self : goal.invariant_of-self
invariant_of-self c =
    let j = c.args.self.now in
    let program = the_program j.core.now in
    let below = the_stack j.below.items in
    record {
      there = j.there;
      reached = ∥∥₁_map j.reached (λ h. same_reached program (the_frame j.top) (the_frame c.step_top.new.top) below below h (c.in_err-step_top.ensures.refused.frame) (refl));
    }

pub invariant_of-self-in-Acted : goal.invariant_of-self-in-Acted
invariant_of-self-in-Acted c =
    let j = c.args.self.now in
    let program = the_program j.core.now in
    let below = the_stack j.below.items in
    let t = rw c.in-Acted.is at (c.in_ok-step_top.ensures.done (the_subroutines j.core.now) below) in
    record {
      there = j.there;
      reached = ∥∥₁_map j.reached (λ h. step_reached program j.there c.args.key (jack_state j) (the_state c.step_top.new.top c.step_top.new.memory below) false h (t));
    }

pub invariant_of-self-in-Heard : goal.invariant_of-self-in-Heard
invariant_of-self-in-Heard c =
    let j = c.args.self.now in
    let program = the_program j.core.now in
    let below = the_stack j.below.items in
    let t = rw c.in-Heard.is at (c.in_ok-step_top.ensures.done (the_subroutines j.core.now) below) in
    record {
      there = j.there;
      reached = ∥∥₁_map j.reached (λ h. step_reached program j.there c.args.key (jack_state j) (the_state c.step_top.new.top c.step_top.new.memory below) true h (t));
    }

pub invariant_of-self-in-Calls-1 : goal.invariant_of-self-in-Calls-1
invariant_of-self-in-Calls-1 c =
    let j = c.args.self.now in
    let program = the_program j.core.now in
    let below = the_stack j.below.items in
    let t = rw c.in-Calls.is at (c.in_ok-step_top.ensures.done (the_subroutines j.core.now) below) in
    record {
      there = j.there;
      reached = ∥∥₁_map j.reached (λ h. same_reached program (the_frame j.top) (the_frame c.step_top.new.top) below below h (ap the_frame t.2.0) (refl));
    }

pub invariant_of-self-then-not-leave : goal.invariant_of-self-then-not-leave
invariant_of-self-then-not-leave c =
    let j = c.args.self.now in
    let program = the_program j.core.now in
    let below = the_stack j.below.items in
    let t = rw c.in-Returns.is at (c.in_ok-step_top.ensures.done (the_subroutines j.core.now) below) in
    let l = rw c.if-not-leave.true at c.leave.ensures in
    record {
      there = j.there;
      reached = ∥∥₁_map j.reached (λ h. same_reached program (the_frame j.top) (the_frame c.leave.new.top) below (the_stack c.leave.new.below.items) h (ap the_frame (l.2 ∙ t.1.0)) (l.1 ∙ sym l.0));
    }

pub invariant_of-self-in-Returns : goal.invariant_of-self-in-Returns
invariant_of-self-in-Returns c =
    let j = c.args.self.now in
    let program = the_program j.core.now in
    let below = the_stack j.below.items in
    let t = rw c.in-Returns.is at (c.in_ok-step_top.ensures.done (the_subroutines j.core.now) below) in
    let l = rw c.if-not-leave.false at c.leave.ensures in
    record {
      there = j.there;
      reached = ∥∥₁_map j.reached (λ h. step_reached program j.there c.args.key (jack_state j) (the_state c.leave.new.top c.step_top.new.memory (the_stack c.leave.new.below.items)) false h (t.0 ∙ returned_to j.top c.leave.new.top j.memory c.step_top.new.memory below (the_stack c.leave.new.below.items) l.0 c.in-Returns.w t.1.1 l.1 l.2));
    }

pub invariant_of-self-in-Strays-1 : goal.invariant_of-self-in-Strays-1
invariant_of-self-in-Strays-1 c =
    let j = c.args.self.now in
    let program = the_program j.core.now in
    let below = the_stack j.below.items in
    let t = rw c.in-Strays.is at (c.in_ok-step_top.ensures.done (the_subroutines j.core.now) below) in
    record {
      there = j.there;
      reached = ∥∥₁_map j.reached (λ h. same_reached program (the_frame j.top) (the_frame c.step_top.new.top) below below h (ap the_frame t.1.0) (refl));
    }

pub invariant_of-self-in-Done : goal.invariant_of-self-in-Done
invariant_of-self-in-Done c =
    let j = c.args.self.now in
    let program = the_program j.core.now in
    let below = the_stack j.below.items in
    let t = rw c.in-Done.is at (c.in_ok-step_top.ensures.done (the_subroutines j.core.now) below) in
    record {
      there = j.there;
      reached = ∥∥₁_map j.reached (λ h. same_reached program (the_frame j.top) (the_frame c.step_top.new.top) below below h (ap the_frame t.1.0) (refl));
    }
