use Rattle.std.proofs.Common.{◌≡◌, ◌+◌, ◌≤◌, drop, map}
use Rattle.hack_asm.specs.Trees.{line_of}
use Rattle.hack_asm.specs.Program.{size}
use Rattle.hack_asm.proofs.program.size.Given as goal

abbrev pub invariant-loop-line : goal.invariant-loop-line
invariant-loop-line l = record {
  size : l.n + size (map line_of (drop l.line-index l.lines)) ≡ size (map line_of l.lines);
  counted : l.n ≤ l.line-index;
}
