use Rattle.std.proofs.Common.{rules, arith, ◌≡◌, Some, ap}
use Rattle.std.proofs.lemmas.Grind.{common_steps}
use Rattle.gate_tests.proofs.Nand.{nand_shipped}
use Rattle.gate_tests.proofs.chips.shipped_nand.Goals as goal

pub returns : goal.returns
returns c =
    let own : c.in_ok-own.own ≡ c.in_ok-chip.chip.name = first_of (search rules, grind (arith, common_steps)) in
    nand_shipped _ c.in_ok-chip.ensures (ap Some own)
