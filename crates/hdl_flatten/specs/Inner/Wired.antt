-- What feeds the bits of a chip's pins and nets, as tables have it.
use Rattle.std.specs.Prelude.{◌≡◌, ℕ, ◌&&◌, nat_eq, List, [], ◌∷◌, ◌++◌, map, Option, Some, None, unwrap_or, if◌then◌else◌}
use Rattle.std.specs.Str.{bytes_eq}
use Rattle.hdl_check.specs.Tables.{BitOf}
use Rattle.hdl_flatten.specs.declared.wires.Bit.{Bit}
use Rattle.hdl_flatten.specs.declared.wires.Origin.{Origin}
use Rattle.hdl_flatten.specs.declared.wires.Origin.TheVariants.{Low}
use Rattle.hdl_flatten.specs.declared.wires.Wires.{Wires}

abbrev pub bit_of : Bit → BitOf
bit_of b = record { name = b.name.now; bit = b.bit }

abbrev pub seen_wire : Bit × Origin → BitOf × Origin
seen_wire e = (bit_of e.0, e.1)

abbrev pub wires_of : Wires → List (BitOf × Origin)
wires_of w = map seen_wire w.entries.entries

-- what was entered first for a bit
abbrev pub found_bit : {V : Type 0} → List ℕ → ℕ → List (BitOf × V) → Option V
found_bit name bit [] = None
found_bit name bit (e ∷ es) = if (bytes_eq name e.0.name && nat_eq bit e.0.bit) then Some e.1 else found_bit name bit es

-- a bit that was not entered is 0
abbrev pub origin_at : List (BitOf × Origin) → List ℕ → ℕ → Origin
origin_at es name bit = unwrap_or (found_bit name bit es) Low

abbrev pub origins_at : List (BitOf × Origin) → List BitOf → List Origin
origins_at es bits = map (λ b. origin_at es b.name b.bit) bits

-- the new entries find what the old ones and then these find
abbrev pub FindsMore : List (BitOf × Origin) → List (BitOf × Origin) → List (BitOf × Origin) → Type 0
FindsMore old new more = (name : List ℕ) (bit : ℕ) → found_bit name bit new ≡ found_bit name bit (old ++ more)
