-- A call that is next has its arguments, and its subroutine is there.
use Rattle.std.proofs.Common.{◌≡◌, ◌≤◌, ◌-◌, suc, length, drop, map, ap, ◌∙◌, arith}
use Rattle.std.proofs.Math.Logic.{∥∥₁_elim, ∥∥₁_map}
use Rattle.std.specs.Coded.{le_prop}
use Rattle.std.proofs.lemmas.List.{length-map}
use Rattle.jack_core.specs.Texts.{the_subroutine, the_subroutines}
use Rattle.jack_core.specs.declared.tree.Part.TheVariants as part
use Rattle.jack_core.specs.Texts.{the_program}
use Rattle.jack_meaning.specs.Meaning.{new_frame}
use Rattle.jack_machine.specs.Frames.{the_frame}
use Rattle.jack_machine.specs.Looks.{passed_values}
use Rattle.jack_machine.specs.Machine.{the_stack}
use Rattle.jack_machine.proofs.Fitting.{has_operands}
use Rattle.jack_machine.proofs.Reaching.{same_reached, on_either}
use Rattle.jack_machine.proofs.jack.Jack.make_call.Goals as goal

pub last_values-requires : goal.last_values-requires
last_values-requires c =
    let values = c.deref.ensures.value in
    rw values (has_operands c.args.self.now.top.text.front (part.Call c.args.n c.args.g) c.requires.next)

pub enter-requires : goal.enter-requires
enter-requires c =
    let subs = c.args.self.now.core.now.subroutines.items in
    let there : suc c.args.g ≤ length (the_subroutines c.args.self.now.core.now) = ∥∥₁_elim c.requires.reached le_prop (λ h. let b = h.0 in omega arith) in
    omega (arith, there, length-map subs the_subroutine, ap length c.deref-2.ensures.value)

pub invariant_of-self : goal.invariant_of-self
invariant_of-self c =
    let j = c.args.self.now in
    let g = c.args.g in
    let n = c.args.n in
    let subs = the_subroutines j.core.now in
    let values = j.top.text.front.values.items in
    let frame : the_frame c.in_ok-entered.entered ≡ new_frame (the_subroutines c.args.self.now.core.now) c.args.g (passed_values (part.Call c.args.n c.args.g) c.args.self.now.top.text.front.values.items) =
    c.in_ok-entered.ensures ∙ ap (λ z. new_frame (map the_subroutine z) c.args.g c.in_ok-arguments.arguments.items) c.deref-2.ensures.value
    ∙ ap (new_frame (the_subroutines c.args.self.now.core.now) c.args.g) (c.in_ok-arguments.ensures ∙ ap (λ z. drop (length z - c.args.n) z) c.deref.ensures.value) in record {
      there = j.there;
      reached = on_either c.call.result c.call.ensures.done c.call.ensures.refused
          (λ d. ∥∥₁_map c.requires.reached (λ h. same_reached (the_program c.args.self.now.core.now) _ _ _ _ h (ap the_frame d.on_top ∙ frame) d.waiting))
          (λ e. on_either c.call.result c.call.ensures.done c.call.ensures.refused_below
          (λ d. ∥∥₁_map c.requires.reached (λ h. same_reached (the_program c.args.self.now.core.now) _ _ _ _ h (ap the_frame d.on_top ∙ frame) d.waiting))
          (λ b. ∥∥₁_map c.args.self.now.reached (λ h. same_reached (the_program c.args.self.now.core.now) _ _ _ _ h e (ap the_stack b))));
    }
