use Rattle.std.proofs.Common.{◌≡◌, ◌≤◌, ◌+◌, List, ℕ, drop}
use Rattle.std.specs.Option.{option_or}
use Rattle.vm_link.specs.Resolved.{label_place, first_place}
use Rattle.vm_link.specs.Inner.Maps.{number, seen_section}
use Rattle.vm_link.proofs.numbers.label_places.Given as goal

abbrev pub invariant-loop-line : goal.invariant-loop-line
invariant-loop-line l = ((q : List ℕ) → option_or (number l.places q) (label_place q l.place (drop l.line-index l.line-items))
    ≡ label_place q (first_place (seen_section l.fn.part)) l.line-items)
    × (l.place ≤ l.line-index + 1)
