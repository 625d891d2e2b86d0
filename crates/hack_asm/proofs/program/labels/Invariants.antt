use Rattle.std.proofs.Common.{◌≡◌, ◌≤◌, [], drop, map}
use Rattle.hack_asm.specs.Trees.{line_of}
use Rattle.hack_asm.specs.Program.{labels}
use Rattle.hack_asm.specs.Entered.{table_of}
use Rattle.hack_asm.proofs.program.labels.Given as goal

abbrev pub invariant-loop-line : goal.invariant-loop-line
invariant-loop-line l = record {
  labels : labels l.n (table_of l.symbols) (map line_of (drop l.line-index l.lines)) ≡ labels 0 [] (map line_of l.lines);
  counted : l.n ≤ l.line-index;
}
