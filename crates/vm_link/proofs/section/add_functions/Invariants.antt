use Rattle.std.proofs.Common.{◌≡◌, ◌+◌, ◌++◌, drop, length}
use Rattle.vm_link.specs.Sections.{functions_from}
use Rattle.vm_link.specs.Inner.Maps.{all_seen}
use Rattle.vm_link.proofs.section.add_functions.Given as goal

abbrev pub invariant-loop-function : goal.invariant-loop-function
invariant-loop-function l = all_seen l.parts.items ++ functions_from l.file (length l.parts.items + 1) (drop l.function-index l.functions)
    ≡ all_seen l.fn.parts.items ++ functions_from l.file (length l.fn.parts.items + 1) l.functions
