use Rattle.std.proofs.Common.{◌≡◌, ℕ, ◌++◌, List, length}
use Rattle.name_table.specs.Tables.{Finds}
use Rattle.hdl_check.specs.declared.check.Port.{Port}
use Rattle.hdl_flatten.specs.Inner.Wired.{wires_of, found_bit}
use Rattle.hdl_flatten.specs.Inner.Plans.{all_fed}
use Rattle.hdl_flatten.proofs.plan.feed_all.Given as goal

abbrev pub invariant-loop-connection : goal.invariant-loop-connection
invariant-loop-connection l = (list : List (List ℕ × Port)) → Finds l.ports list → (name : List ℕ) (bit : ℕ) →
    found_bit name bit (wires_of l.fed ++ all_fed (wires_of l.wires) list l.rest) ≡ found_bit name bit (all_fed (wires_of l.wires) list l.connections)

abbrev pub decreases-loop-connection : goal.decreases-loop-connection
decreases-loop-connection l = length l.rest
