use Rattle.std.proofs.Common.{◌≡◌, ◌<◌, ℕ, List, length, Some, refl, ap, sym, ◌∙◌, arith}
use Rattle.std.specs.Prelude.{slice_index_or}
use Rattle.std.proofs.lemmas.Option.{same_Some, slice_get-get_or}
use Rattle.netlist.specs.declared.node.Node.{Node}
use Rattle.netlist.specs.declared.node.Node.TheVariants.{Pin, Nand, Flip, Word, Zero}
use Rattle.netlist.specs.declared.node.Block.{Block}
use Rattle.netlist.specs.Order.{FitsAt}
use Rattle.gate_sim.specs.declared.plan.Lane.{Lane}
use Rattle.gate_sim.specs.Inner.Plans.{place_of, lone_of}
use Rattle.gate_sim.specs.Inner.Plain.{placed_op, plain_op, plain_place}
use Rattle.gate_sim.proofs.plain.op_of.Goals as goal

-- the operation over the places of the plain plan
placed_is : (nodes : List Node) (blocks : List Block) (places : List Lane) (k n : ℕ) (node : Node) → FitsAt k n blocks node → ((i : ℕ) → i < k → place_of places i ≡ plain_place nodes i) → placed_op places node ≡ plain_op nodes node
placed_is nodes blocks places k n Pin fits place = refl
placed_is nodes blocks places k n (Nand i j) fits place = ap (λ a. lone_of a (place_of places j)) (place i fits.0) ∙ ap (lone_of (plain_place nodes i)) (place j fits.1)
placed_is nodes blocks places k n (Flip i) fits place = refl
placed_is nodes blocks places k n (Word b bit) fits place = refl
placed_is nodes blocks places k n Zero fits place = refl

pub node_op-requires-clause-inputs : goal.node_op-requires-clause-inputs
node_op-requires-clause-inputs c i j e =
    let there = slice_get-get_or c.args.nodes.now c.args.k Pin c.requires.node in
    let fits = c.requires.ordered.fit c.args.k (Nand i j) (there ∙ ap Some e) in
    let a = fits.0 in
    let b = fits.1 in
    let long = c.requires.long in
    (omega arith, omega arith)

pub node_op-requires-clause-bit : goal.node_op-requires-clause-bit
node_op-requires-clause-bit c b at e =
    let there = slice_get-get_or c.args.nodes.now c.args.k Pin c.requires.node in
    (c.requires.ordered.fit c.args.k (Word b at) (there ∙ ap Some e)).0

pub returns : goal.returns
returns c node at =
    let there = slice_get-get_or c.args.nodes.now c.args.k Pin c.requires.node in
    c.node_op.ensures
    ∙ placed_is c.args.nodes.now c.args.blocks.now c.args.places.now c.args.k (length c.args.nodes.now) (slice_index_or c.args.nodes.now c.args.k Pin) (c.requires.ordered.fit c.args.k (slice_index_or c.args.nodes.now c.args.k Pin) there) c.requires.places
    ∙ ap (plain_op c.args.nodes.now) (same_Some (slice_index_or c.args.nodes.now c.args.k Pin) node (sym there ∙ at))
