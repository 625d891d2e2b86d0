use Rattle.std.proofs.Common.{◌∷◌, get_or, take, sym, ap, subst, ◌∙◌}
use Rattle.netlist.specs.Histories.{rank}
use Rattle.gate_sim.specs.Calls.Call.{Set}
use Rattle.script_device.specs.Simulated.{WasTold, net_of}
use Rattle.script_device.specs.Driven.{set_nodes}
use Rattle.script_device.proofs.Buses.{set_more}
use Rattle.script_device.proofs.bus.set_bus.Goals as goal

pub loop-k-preserved : goal.loop-k-preserved
loop-k-preserved c = record {
  frame = c.set.ensures.frame ∙ c.loop-k.invariant.frame;
  stands = λ calls st.
      let nodes = c.args.nodes.now in
      let all = (net_of c.args.sim.now.frame).nodes in
      let e = ap (λ f. Set (rank (net_of f).nodes (get_or nodes c.loop-k.k 0)) c.bit.result ∷ set_nodes all 0 c.args.word (take c.loop-k.k nodes) calls) c.loop-k.invariant.frame
      ∙ ap (λ b. Set (rank all (get_or nodes c.loop-k.k 0)) b ∷ set_nodes all 0 c.args.word (take c.loop-k.k nodes) calls) c.bit.ensures ∙ sym (set_more all c.args.word nodes c.loop-k.k calls c.loop-k-test.true) in
      subst (λ cs. WasTold c.set.new.self cs) e (c.set.ensures.stands _ (c.loop-k.invariant.stands calls st));
}
