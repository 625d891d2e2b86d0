use Rattle.std.proofs.Common.{ℕ, ◌∙◌, ◌∷◌, [], ap, drop, get_or, ◌+◌}
use Rattle.std.specs.Prelude.{map}
use Rattle.std.proofs.lemmas.List.{get_or_default}
use Rattle.machine_io.proofs.Handed.{handed_as}
use Rattle.netlist.specs.Present.{value_in}
use Rattle.gate_computer.specs.Parts.{digit}
use Rattle.outer_world.proofs.Prints.{prints_more, prints_failed, rest_at}
use Rattle.gate_computer.proofs.showing.put_digits.Goals as goal

pub returns-in-Failed-clause-passes : goal.returns-in-Failed-clause-passes
returns-in-Failed-clause-passes g c =
    let nodes = c.args.nodes.now in
    let i = c.loop-node.node-index in
    let f : ℕ → ℕ = λ node. digit (value_in c.args.sim.now.values node) in
    prints_failed _ _ _ (map f (drop (i + 1) nodes)) _ _ _ _ _ _ (ap (map f) (rest_at nodes i (get_or nodes i 0) c.loop-node-test.true (get_or_default nodes i 0 (get_or nodes i 0) c.loop-node-test.true))) c.loop-node.invariant.1
    (handed_as _ _ _ _ _ _ _ (ap (λ x. x ∷ []) (c.digit.ensures ∙ ap digit c.get.ensures.stored)) c.in-Failed.ensures.passes)

pub loop-node-preserved : goal.loop-node-preserved
loop-node-preserved g c =
    let nodes = c.args.nodes.now in
    let i = c.loop-node.node-index in
    let f : ℕ → ℕ = λ node. digit (value_in c.args.sim.now.values node) in (
      c.in-Done.ensures.same_sink ∙ c.loop-node.invariant.0,
      prints_more _ _ _ _ _ _ _ _ _ _ (ap (map f) (rest_at nodes i (get_or nodes i 0) c.loop-node-test.true (get_or_default nodes i 0 (get_or nodes i 0) c.loop-node-test.true))) c.loop-node.invariant.1
          (handed_as _ _ _ _ _ _ _ (ap (λ x. x ∷ []) (c.digit.ensures ∙ ap digit c.get.ensures.stored)) c.in-Done.ensures.passes),
    )
