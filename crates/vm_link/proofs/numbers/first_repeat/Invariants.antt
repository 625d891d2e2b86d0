use Rattle.std.proofs.Common.{◌≡◌, List, ℕ, drop, take, is_some}
use Rattle.vm_link.specs.Sections.{stands_in}
use Rattle.vm_link.specs.Faults.{first_repeat, repeat_after}
use Rattle.vm_link.specs.Inner.Maps.{number, texts}
use Rattle.vm_link.proofs.numbers.first_repeat.Given as goal

abbrev pub invariant-loop-name : goal.invariant-loop-name
invariant-loop-name l = ((q : List ℕ) → is_some (number l.seen q) ≡ stands_in (texts (take l.name-index l.names)) q)
    × (repeat_after (texts (take l.name-index l.names)) (texts (drop l.name-index l.names)) ≡ first_repeat (texts l.names))
