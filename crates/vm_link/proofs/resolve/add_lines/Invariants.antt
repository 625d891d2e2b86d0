use Rattle.std.proofs.Common.{◌≡◌, ◌≤◌, ◌+◌, ◌++◌, List, drop}
use Rattle.std.specs.List.{filter_map}
use Rattle.vm_link.specs.Sections.{Section}
use Rattle.vm_link.specs.Faults.{words_of_lines}
use Rattle.vm_link.specs.Resolved.{code_of}
use Rattle.vm_link.specs.Inner.Maps.{Tells}
use Rattle.vm_link.proofs.resolve.add_lines.Given as goal

abbrev pub invariant-loop-line : goal.invariant-loop-line
invariant-loop-line l = ((kept : List Section) (s : Section) → Tells kept s l.functions l.places l.before
    → l.code.items ++ filter_map (code_of kept s) (drop l.line-index l.lines) ≡ l.fn.code.items ++ filter_map (code_of kept s) l.lines)
    × (l.before + words_of_lines (drop l.line-index l.lines) ≤ 240)
