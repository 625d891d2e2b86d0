use Rattle.std.proofs.Common.{◌≤◌, ◌-◌, length, map, drop}
use Rattle.grammar.proofs.Repeats.{Along}
use Rattle.hack_asm.specs.Tokens.{Word, view}
use Rattle.hack_asm.specs.Grammar.{Said, assembly, line}
use Rattle.hack_asm.specs.Trees.{Line, line_of, line_tree}
use Rattle.hack_asm.proofs.reading.all_lines.Given as goal

abbrev pub invariant-lines : goal.invariant-lines
invariant-lines l = record { within : l.at ≤ length l.tokens; along : Along Word (Unit {0}) (Unit {0}) Said Line (assembly l.end) line line_tree tt (map view l.tokens) (map line_of l.lines.items) tt (map view (drop l.at l.tokens)) }

abbrev pub decreases-lines : goal.decreases-lines
decreases-lines l = length l.tokens - l.at
