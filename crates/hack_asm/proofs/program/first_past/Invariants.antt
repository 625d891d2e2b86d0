use Rattle.std.proofs.Common.{◌≡◌, drop, map}
use Rattle.hack_asm.specs.Trees.{line_of}
use Rattle.hack_asm.specs.Program.{first_past}
use Rattle.hack_asm.specs.Entered.{table_of}
use Rattle.hack_asm.proofs.program.first_past.Given as goal

abbrev pub invariant-loop-line : goal.invariant-loop-line
invariant-loop-line l = first_past (table_of l.symbols) (map line_of (drop l.line-index l.lines)) ≡ first_past (table_of l.symbols) (map line_of l.lines)
