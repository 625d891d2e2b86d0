use Rattle.std.proofs.Common.{◌≡◌, drop, map}
use Rattle.hack_asm.specs.Program.{address_among}
use Rattle.hack_asm.specs.Entered.{seen_entry}
use Rattle.hack_asm.proofs.symbols.address_among.Given as goal

abbrev pub invariant-loop-row : goal.invariant-loop-row
invariant-loop-row l =
    address_among (map seen_entry (drop l.row-index l.rows)) l.name ≡ address_among (map seen_entry l.rows) l.name
