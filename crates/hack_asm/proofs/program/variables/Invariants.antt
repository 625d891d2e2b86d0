use Rattle.std.proofs.Common.{◌≡◌, ◌≤◌, ◌+◌, drop, map}
use Rattle.hack_asm.specs.Trees.{line_of}
use Rattle.hack_asm.specs.Program.{variables}
use Rattle.hack_asm.specs.Entered.{table_of}
use Rattle.hack_asm.proofs.program.variables.Given as goal

abbrev pub invariant-loop-line : goal.invariant-loop-line
invariant-loop-line l = record {
  variables : variables l.next (table_of l.symbols) (map line_of (drop l.line-index l.lines)) ≡ variables 16 (table_of l.fn.symbols) (map line_of l.lines);
  counted : l.next ≤ l.line-index + 16;
}
