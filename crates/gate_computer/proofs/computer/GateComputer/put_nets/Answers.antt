use Rattle.std.proofs.Common.{◌∙◌, length, sym, subst, arith}
use Rattle.outer_world.specs.Held.{pending}
use Rattle.gate_sim.specs.Calls.{pins_of}
use Rattle.gate_computer.specs.contracts.computer.GateComputer.{the_view}
use Rattle.gate_computer.specs.Calls.{HoldsKey}
use Rattle.gate_computer.specs.Inner.Told.{HasSet}
use Rattle.gate_computer.specs.Inner.Readable.{IsReadable}
use Rattle.gate_computer.specs.Followed.{GateMachine, HasFollowed, PassesParts}
use Rattle.gate_computer.proofs.Following.{first, followed, told_set, read_set, passes_parts}
use Rattle.gate_computer.proofs.computer.GateComputer.put_nets.Goals as goal

pub invariant_of-self : goal.invariant_of-self
invariant_of-self g c = record {
  readable = subst (λ m. IsReadable m c.self.inside.wiring) (sym (c.eval.ensures.net ∙ c.set_keyboard.ensures.net)) c.self.invariant.readable;
  few_steps = c.self.invariant.few_steps;
  few_keys = c.self.invariant.few_keys;
}

pub returns-clause-stands : goal.returns-clause-stands
returns-clause-stands g c turns h =
    let f = subst (λ s. HasFollowed s turns) (sym c.self.view_is) h in
    let netA = c.set_keyboard.ensures.net in
    let netE = c.eval.ensures.net ∙ netA in
    let set = subst (λ l. HasSet c.set_keyboard.new.sim f.told.calls (HoldsKey l c.args.key)) c.as_slice.ensures
    (c.set_keyboard.ensures.told f.told.calls f.told.stands (subst (λ l. HoldsKey l c.self.inside.key (pins_of c.self.inside.sim.net.nodes f.told.calls)) (sym c.as_slice.ensures) f.told.held)) in
    let told = told_set c.self.inside.sim c.set_keyboard.new.sim c.eval.new.self c.self.inside.wiring c.self.inside.image c.self.inside.key c.args.key turns netA netE (omega arith) f.told set (c.eval.ensures.stands set.now set.stands) in
    followed _ turns f.acted f.counts told (λ some. read_set (the_view c.self.inside) c.set_keyboard.new.sim c.eval.new.self c.args.key turns f netA netE (omega arith) set (c.eval.ensures.stands set.now set.stands))
    (λ keys words holds. first (the_view c.self.inside) turns f keys words holds)

pub returns-clause-passes : goal.returns-clause-passes
returns-clause-passes g c turns h keys words holds now =
    let f = subst (λ s. HasFollowed s turns) (sym c.self.view_is) h in
    let netA = c.set_keyboard.ensures.net in
    let netE = c.eval.ensures.net ∙ netA in
    let set = subst (λ l. HasSet c.set_keyboard.new.sim f.told.calls (HoldsKey l c.args.key)) c.as_slice.ensures
    (c.set_keyboard.ensures.told f.told.calls f.told.stands (subst (λ l. HoldsKey l c.self.inside.key (pins_of c.self.inside.sim.net.nodes f.told.calls)) (sym c.as_slice.ensures) f.told.held)) in
    let before = g.S.Sink.state c.args.out.now.sink.now in
    let after = g.S.Sink.state c.put_parts.new.out.sink.now in
    subst (λ (s : GateMachine). PassesParts s.image keys (length turns) before (pending c.args.out.now) after (pending c.put_parts.new.out) c.put_parts.result) c.self.view_is
    (passes_parts c.self.inside.sim c.set_keyboard.new.sim c.eval.new.self c.self.inside.wiring c.self.inside.image c.self.inside.key c.args.key turns netA netE (omega arith) f.told set (c.eval.ensures.stands set.now set.stands)
    keys holds now words c.told_parts.result.now c.told_parts.ensures before (pending c.args.out.now) after (pending c.put_parts.new.out) c.put_parts.result
    c.put_parts.ensures.passes)
