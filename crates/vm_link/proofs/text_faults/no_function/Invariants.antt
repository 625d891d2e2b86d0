use Rattle.std.proofs.Common.{◌≡◌, List, drop}
use Rattle.vm_link.specs.Sections.{Section}
use Rattle.vm_link.specs.Faults.{first_of, no_function}
use Rattle.vm_link.specs.Inner.Maps.{AreNumbers, all_seen}
use Rattle.vm_link.proofs.text_faults.no_function.Given as goal

abbrev pub invariant-loop-part : goal.invariant-loop-part
invariant-loop-part l = (ss : List Section) → AreNumbers l.numbers ss
    → first_of (no_function ss) (all_seen (drop l.part-index l.kept)) ≡ first_of (no_function ss) (all_seen l.kept)
