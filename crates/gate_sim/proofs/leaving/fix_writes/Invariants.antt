use Rattle.std.proofs.Common.{◌≡◌, ℕ, ◌<◌, Some}
use Rattle.std.specs.Prelude.{slice_get, IfSome}
use Rattle.netlist.specs.declared.node.Block.{Block}
use Rattle.netlist.specs.Value.{written_in}
use Rattle.gate_sim.specs.Inner.Slots.{value_at}
use Rattle.netlist.specs.Steps.{after_write, write_at}
use Rattle.gate_sim.proofs.leaving.fix_writes.Given as goal

abbrev pub invariant-loop-b : goal.invariant-loop-b
invariant-loop-b l = record {
  inside : (b : ℕ) (block : Block) → b < l.b → slice_get l.blocks b ≡ Some block → IfSome (write_at l.writes b) (λ w. w.address < block.words);
  words : (b a old : ℕ) (block : Block) → b < l.b → slice_get l.blocks b ≡ Some block → after_write (write_at l.writes b) a old ≡ written_in (Some block) (value_at l.places l.slots) a old;
}
