use Rattle.std.proofs.Common.{◌≡◌, List, Bool, length, sym, ap, ◌∙◌, arith}
use Rattle.std.specs.List.{All}
use Rattle.std.proofs.lemmas.Option.{get_or_from_slice_get, slice_get_within}
use Rattle.netlist.specs.declared.node.Node.{Node}
use Rattle.netlist.specs.Histories.{HasBits, pin_count}
use Rattle.chip_tests.proofs.simulating.read_values.Goals as goal

-- four bits are enough for four pins
enough : (nodes : List Node) (pins : List (List Bool)) → pin_count nodes ≡ 4 → All (λ bits. length bits ≡ 4) pins → HasBits nodes pins
enough nodes pins count all d bits there =
    let four : length bits ≡ 4 = ap (λ (l : List Bool). length l) (sym (get_or_from_slice_get pins d bits bits there)) ∙ all d bits (slice_get_within pins d bits there) in
    omega arith

pub push_read-requires-clause-bits : goal.push_read-requires-clause-bits
push_read-requires-clause-bits c = enough _ _ c.requires.pins c.requires.bits
