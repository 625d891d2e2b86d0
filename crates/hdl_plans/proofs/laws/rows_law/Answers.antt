use Rattle.std.proofs.Common.{refl}
use Rattle.hdl_plans.proofs.Behaves.{behaves}
use Rattle.hdl_plans.proofs.Rows.{half, gate_loop, address_loop, no_bit_twice, no_clocked_loop}
use Rattle.hdl_plans.proofs.Rings.{first_ring, second_ring, no_double_ring}
use Rattle.hdl_plans.proofs.laws.rows_law.Goals as goal

pub returns : goal.returns
returns c = record {
  sizes = refl;
  no_blocks = refl;
  behaves = behaves;
  unjoined_is_low = λ world n k wires h lt. (half world n k wires h lt).0;
  undriven_is_low = λ world n k wires h lt. (half world n k wires h lt).1;
  gate_loop = gate_loop;
  address_loop = address_loop;
  first_ring = first_ring;
  second_ring = second_ring;
  no_double_ring = no_double_ring;
  no_bit_twice = no_bit_twice;
  no_clocked_loop = no_clocked_loop;
}
