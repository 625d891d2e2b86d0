use Rattle.std.proofs.Common.{◌≡◌, List, ℕ, drop}
use Rattle.std.specs.List.{position_from}
use Rattle.std.specs.Option.{option_or}
use Rattle.vm_link.specs.Sections.{is_named}
use Rattle.vm_link.specs.Inner.Maps.{number, all_seen}
use Rattle.vm_link.proofs.numbers.function_numbers.Given as goal

abbrev pub invariant-loop-place : goal.invariant-loop-place
invariant-loop-place l = (q : List ℕ) → option_or (number l.numbers q) (position_from (is_named q) l.place (all_seen (drop l.place l.parts)))
    ≡ position_from (is_named q) 0 (all_seen l.parts)
