use Rattle.std.proofs.Common.{refl, inl, subst, sym}
use Rattle.script_parser.specs.declared.tree.Step.{Step}
use Rattle.script_parser.specs.declared.tree.Act.TheVariants as acts
use Rattle.script_device.specs.Devices.{after_eval, after_tick, after_tock}
use Rattle.tst_runner.specs.Effects.{Does}
use Rattle.outer_world.specs.Held.{pending, sink_of}
use Rattle.tst_runner.specs.Inner.States.{Performs}
use Rattle.tst_runner.proofs.Kept.{IsState-device, Keeps-eval, Keeps-tick, Stays-eval, Stays-tick}
use Rattle.tst_runner.proofs.Performed.{CountsStop-becomes, Performs-becomes}
use Rattle.tst_runner.proofs.acts.do_step.Goals as goal

pub returns-in-Eval-clause-does : goal.returns-in-Eval-clause-does
returns-in-Eval-clause-does g c setting there w e f s h stays =
    let t = record s { device = after_eval s.device } in
    let P : Step → Type 0 = λ step. Does setting s (acts.Step step) t in (
      t,
      inl (subst P (sym c.in-Eval.is) refl),
      IsState-device setting c.args.state.now s c.eval.new.self (after_eval s.device) h (Keeps-eval s.device) (Stays-eval s.device) (c.eval.ensures.stands s.device h.device),
      record { on_out = stays.on_out; on_err = stays.on_err },
    )

pub returns-in-Tick-clause-does : goal.returns-in-Tick-clause-does
returns-in-Tick-clause-does g c setting there w e f s h stays =
    let t = record s { device = after_tick s.device } in
    let P : Step → Type 0 = λ step. Does setting s (acts.Step step) t in (
      t,
      inl (subst P (sym c.in-Tick.is) refl),
      IsState-device setting c.args.state.now s c.tick.new.self (after_tick s.device) h (Keeps-tick s.device) (Stays-tick s.device) (c.tick.ensures.stands s.device h.device),
      record { on_out = stays.on_out; on_err = stays.on_err },
    )

pub returns-in-Tock-clause-does : goal.returns-in-Tock-clause-does
returns-in-Tock-clause-does g c setting there w e f s h stays =
    let t = record s { device = after_tock s.device } in
    let P : Step → Type 0 = λ step. Does setting s (acts.Step step) t in
    Performs-becomes setting there ⊥ w (g.O.Sink.state (sink_of c.args.out.now)).written e f (pending c.args.out.now) s t (acts.Step c.args.step) c.tock.new.state c.tock.result
    (subst P (sym c.in-Tock.is) refl) refl refl stays (c.tock.ensures setting s h)

pub returns-in-TickTock-clause-does : goal.returns-in-TickTock-clause-does
returns-in-TickTock-clause-does g c setting there w e f s h stays =
    let r = record s { device = after_tick s.device } in
    let t = record s { device = after_tock (after_tick s.device) } in
    let P : Step → Type 0 = λ step. Does setting s (acts.Step step) t in
    let is = IsState-device setting c.args.state.now s c.tick-in-TickTock.new.self (after_tick s.device) h (Keeps-tick s.device) (Stays-tick s.device) (c.tick-in-TickTock.ensures.stands s.device h.device) in
    Performs-becomes setting there ⊥ w (g.O.Sink.state (sink_of c.args.out.now)).written e f (pending c.args.out.now) s t (acts.Step c.args.step) c.tock-in-TickTock.new.state c.tock-in-TickTock.result
    (subst P (sym c.in-TickTock.is) refl) refl refl stays (c.tock-in-TickTock.ensures setting r is)

pub returns-in-TickTock-clause-counts : goal.returns-in-TickTock-clause-counts
returns-in-TickTock-clause-counts g c h e =
    let setting = c.requires.0 in
    let s = c.requires.1.0 in
    let r = record s { device = after_tick s.device } in
    let is = IsState-device setting c.args.state.now s c.tick-in-TickTock.new.self (after_tick s.device) c.requires.1.1 (Keeps-tick s.device) (Stays-tick s.device) (c.tick-in-TickTock.ensures.stands s.device c.requires.1.1.device) in
    CountsStop-becomes setting c.tock-in-TickTock.new.state (record s { device = after_tock (after_tick s.device) }) c.tock-in-TickTock.result h (g.O.Sink.state (sink_of c.args.out.now)).faults e (c.tock-in-TickTock.ensures setting r is)

pub returns-in-Output-clause-does : goal.returns-in-Output-clause-does
returns-in-Output-clause-does g c setting there w e f s h stays =
    let P : Step → Type 0 = λ step. Performs setting there ⊥ w (g.O.Sink.state (sink_of c.put_values.new.out)).written e f (pending c.put_values.new.out) s (acts.Step step) c.put_values.new.state c.put_values.result in
    subst P (sym c.in-Output.is) (c.put_values.ensures.does setting there w e f s h stays)
