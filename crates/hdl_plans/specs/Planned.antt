-- The plan of a chip, read off its text: what drives each bit of a net, and what feeds each bit of a part's pin.
use Rattle.std.specs.Prelude.{◌≡◌, ℕ, suc, ◌+◌, ◌-◌, false, List, [], ◌∷◌, Option, Some, None, slice_get, unwrap_or, length, if◌then◌else◌}
use Rattle.hdl_tree.specs.declared.tree.Source.{Source}
use Rattle.hdl_tree.specs.declared.tree.Source.TheVariants as source
use Rattle.hdl_tree.specs.declared.tree.Connection.{Connection}
use Rattle.hdl_tree.specs.declared.tree.Part.{Part}
use Rattle.hdl_tree.specs.declared.library.Entry.{Entry}
use Rattle.hdl_tree.specs.Chips.{Chips, end_of, find_chip, parts_of, first, count}
use Rattle.name_table.specs.Names.{find_value, first_of}
use Rattle.hdl_check.specs.Tables.{bits_of, is_in}
use Rattle.hdl_check.specs.Faults.{ports_of}
use Rattle.hdl_check.specs.declared.check.Port.{Port}
use Rattle.hdl_check.specs.Locations.{IsFaultless}
use Rattle.hdl_tree.specs.declared.ends.End.{End}
use Rattle.hdl_tree.specs.Behaviour.{width_in}
use Rattle.hdl_plans.specs.Plans.{Place, Origin, Low, Plan, origin_of, is_input, IsPlan, IsSound, EndFits}

-- the output bit by which a connection drives a bit of a net
abbrev pub output_from : ℕ → List ℕ → ℕ → Connection → ℕ → Source → Option Place
output_from i name bit conn n (source.Net w) =
    if is_in name bit (bits_of w.name (first w.subscript) n) then Some (record { part = i; pin = conn.pin.name; bit = first conn.pin.subscript + (bit - first w.subscript) }) else None
output_from i name bit conn n (source.Constant b) = None

abbrev pub output_by : ℕ → List ℕ → ℕ → Connection → Option Port → Option Place
output_by i name bit conn None = None
output_by i name bit conn (Some port) = if port.input then None else output_from i name bit conn (count conn.pin.subscript port.width) conn.source

abbrev pub output_among : ℕ → List ℕ → ℕ → List (List ℕ × Port) → List Connection → Option Place
output_among i name bit ports [] = None
output_among i name bit ports (conn ∷ conns) = first_of (output_by i name bit conn (find_value conn.pin.name ports)) (output_among i name bit ports conns)

abbrev pub output_in : ℕ → List ℕ → ℕ → List Connection → Option Entry → Option Place
output_in i name bit conns None = None
output_in i name bit conns (Some inner) = output_among i name bit (ports_of inner.chip) conns

-- i is the number of the first of the parts
abbrev pub output_of : Chips → ℕ → List ℕ → ℕ → List Part → Option Place
output_of chips i name bit [] = None
output_of chips i name bit (part ∷ parts) = first_of (output_in i name bit part.connections (find_chip chips part.chip)) (output_of chips (suc i) name bit parts)

-- what a connection feeds to a bit of an input
abbrev pub origin_by : List ℕ → ℕ → Connection → Option Port → Option Origin
origin_by name bit conn None = None
origin_by name bit conn (Some port) =
    if port.input
    then (if is_in name bit (bits_of conn.pin.name (first conn.pin.subscript) (count conn.pin.subscript port.width)) then Some (origin_of conn.source (bit - first conn.pin.subscript)) else None)
    else None

abbrev pub origin_among : List ℕ → ℕ → List (List ℕ × Port) → List Connection → Option Origin
origin_among name bit ports [] = None
origin_among name bit ports (conn ∷ conns) = first_of (origin_by name bit conn (find_value conn.pin.name ports)) (origin_among name bit ports conns)

abbrev pub origin_in : List ℕ → ℕ → List Connection → Option Entry → Option Origin
origin_in name bit conns None = None
origin_in name bit conns (Some inner) = origin_among name bit (ports_of inner.chip) conns

abbrev pub origin_at : Chips → List ℕ → ℕ → Option Part → Option Origin
origin_at chips name bit None = None
origin_at chips name bit (Some part) = origin_in name bit part.connections (find_chip chips part.chip)

-- the plan that the text of a chip has
abbrev pub plan_of : Chips → Entry → Plan
plan_of chips chip = record {
  driver = λ name bit. output_of chips 0 name bit (parts_of chips chip);
  origin = λ i name bit. unwrap_or (origin_at chips name bit (slice_get (parts_of chips chip) i)) Low;
}

-- A chip without faults that is no end has the plan of its text.
abbrev pub PlanLaw : Type 0
PlanLaw = (chips : Chips) (names : List (List ℕ)) (chip : Entry) → IsFaultless chips names chip → end_of chips.memories chip ≡ None → IsPlan chips chip (plan_of chips chip)

-- the ends of the library have the pins that they are shipped with
pub record HasEnds (chips : Chips) : Type 0 where
  pub fits : (name : List ℕ) (chip : Entry) (e : End) → find_chip chips name ≡ Some chip
      → end_of chips.memories chip ≡ Some e → EndFits chip (Some e)
  pub apart : (name : List ℕ) (chip : Entry) (e : End) → find_chip chips name ≡ Some chip
      → end_of chips.memories chip ≡ Some e → (pin : List ℕ) (width : ℕ)
      → width_in chip.chip.outputs pin ≡ Some width → is_input chip pin ≡ false

-- A chip of the library without faults is sound: its parts nest no deeper than there are chips.
abbrev pub SoundLaw : Type 0
SoundLaw = (chips : Chips) (name : List ℕ) (chip : Entry) → HasEnds chips → find_chip chips name ≡ Some chip → IsFaultless chips (chip.name ∷ []) chip → IsSound (length chips.entries) chips (plan_of chips) chip
