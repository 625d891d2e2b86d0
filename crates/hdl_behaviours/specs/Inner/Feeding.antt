-- What gives each bit of a tree its value within a cycle.
use Rattle.std.specs.Prelude.{◌≡◌, ℕ, zero, suc, ◌⊎◌, Bool, true, false, not, ◌&&◌, List, [], ◌∷◌, ◌++◌, Option, Some, None, codes, if◌then◌else◌}
use Rattle.std.specs.Str.{bytes_eq}
use Rattle.word16.specs.Words.{has_bit}
use Rattle.hdl_tree.specs.declared.tree.Source.{Source}
use Rattle.hdl_tree.specs.declared.tree.Source.TheVariants as source
use Rattle.hdl_tree.specs.declared.tree.Connection.{Connection}
use Rattle.hdl_tree.specs.declared.tree.Part.{Part}
use Rattle.hdl_tree.specs.declared.library.Entry.{Entry}
use Rattle.hdl_tree.specs.declared.ends.End.{End}
use Rattle.hdl_tree.specs.declared.ends.End.TheVariants as ends
use Rattle.hdl_tree.specs.Memory.{number, before, word_held}
use Rattle.hdl_tree.specs.Chips.{Chips, end_of, find_chip, parts_of, count}
use Rattle.hdl_tree.specs.Behaviour.{Wires, Histories, World, chip_at, width_of}
use Rattle.hdl_plans.specs.Plans.{Place, Origin, FromNet, Low, High, is_input}
use Rattle.hdl_plans.specs.Planned.{plan_of}
use Rattle.hdl_plans.specs.Loops.{BitAt, outside_bit, inside_bit}

-- the path of a place that is given from within: the last part's number comes first
abbrev pub backwards : List ℕ → List ℕ
backwards [] = []
backwards (i ∷ r) = backwards r ++ i ∷ []

-- where the value of a bit comes from: it is given, it is that of another bit, or it is a bit that an end gives
pub data Supply : Type 0 where
  Given : Bool → Supply
  Copied : List ℕ → List ℕ → ℕ → Supply
  Worked : End → ℕ → Supply

abbrev pub by_driver : List ℕ → Option Place → Supply
by_driver r None = Given false
by_driver r (Some place) = Copied (place.part ∷ r) place.pin place.bit

abbrev pub by_end : List ℕ → ℕ → End → Supply
by_end name bit e = if bytes_eq name (codes "out") then Worked e bit else Given false

abbrev pub inside : Chips → List ℕ → List ℕ → ℕ → Entry → Option End → Supply
inside chips r name bit chip (Some e) = by_end name bit e
inside chips r name bit chip None = by_driver r ((plan_of chips chip).driver name bit)

abbrev pub by_origin : List ℕ → Origin → Supply
by_origin r (FromNet name bit) = Copied r name bit
by_origin r Low = Given false
by_origin r High = Given true

abbrev pub by_parent : Chips → List ℕ → ℕ → List ℕ → ℕ → Option Entry → Supply
by_parent chips r i name bit None = Given false
by_parent chips r i name bit (Some around) = by_origin r ((plan_of chips around).origin i name bit)

abbrev pub outside : Chips → Entry → (List ℕ → ℕ → Bool) → List ℕ → List ℕ → ℕ → Supply
outside chips top input [] name bit = Given (input name bit)
outside chips top input (i ∷ r) name bit = by_parent chips r i name bit (chip_at chips top (backwards r))

abbrev pub supply_in : Chips → Entry → (List ℕ → ℕ → Bool) → List ℕ → List ℕ → ℕ → Option Entry → Supply
supply_in chips top input r name bit None = Given false
supply_in chips top input r name bit (Some chip) = if is_input chip name then outside chips top input r name bit else inside chips r name bit chip (end_of chips.memories chip)

-- what gives the bit its value, where this comes in
abbrev pub supply : Chips → Entry → (List ℕ → ℕ → Bool) → List ℕ → List ℕ → ℕ → Supply
supply chips top input r name bit = supply_in chips top input r name bit (chip_at chips top (backwards r))

-- a bit that an end gives in cycle c, where past has the bits of its pins before, and w those of the cycle
abbrev pub end_bit : World → ℕ → Histories → End → Wires Bool → ℕ → Bool
end_bit world c past ends.Nand w bit = not (w (codes "a") 0 && w (codes "b") 0)
end_bit world c past ends.Dff w bit = before false c (past (codes "in") 0)
end_bit world c past ends.Keyboard w bit = has_bit (world.key c) bit
end_bit world c past ends.Rom w bit = has_bit (world.rom (number 15 (λ k. w (codes "address") k))) bit
end_bit world c past (ends.Block bits) w bit =
    has_bit (word_held (λ d. past (codes "load") 0 d) (λ d. number bits (λ k. past (codes "address") k d)) (λ d. number 16 (λ k. past (codes "in") k d)) (λ a. 0) c (number bits (λ k. w (codes "address") k))) bit

abbrev pub value_by : World → ℕ → (List ℕ → Histories) → (List ℕ → Wires Bool) → List ℕ → Supply → Bool
value_by world c past w r (Given b) = b
value_by world c past w r (Copied q name bit) = w q name bit
value_by world c past w r (Worked e bit) = end_bit world c (past r) e (w r) bit

-- the values after some sweeps, each of which gives every bit its value from those before
abbrev pub swept_value : Chips → Entry → World → ℕ → (List ℕ → Histories) → (List ℕ → ℕ → Bool) → ℕ → List ℕ → Wires Bool
swept_value chips top world c past input zero r name bit = false
swept_value chips top world c past input (suc k) r name bit = value_by world c past (swept_value chips top world c past input k) r (supply chips top input r name bit)

-- ---- the bits that connections join

abbrev pub bits_at : List ℕ → ℕ → Connection → ℕ → Source → List BitAt
bits_at path i conn k (source.Net w) = outside_bit path w k ∷ inside_bit path i conn k ∷ []
bits_at path i conn k (source.Constant b) = []

-- bits below n of a connection of part i, outside and inside
abbrev pub connection_bits : List ℕ → ℕ → Connection → ℕ → List BitAt
connection_bits path i conn zero = []
connection_bits path i conn (suc n) = bits_at path i conn n conn.source ++ connection_bits path i conn n

abbrev pub connections_bits : List ℕ → ℕ → Entry → List Connection → List BitAt
connections_bits path i inner [] = []
connections_bits path i inner (conn ∷ conns) = connection_bits path i conn (count conn.pin.subscript (width_of inner conn.pin.name)) ++ connections_bits path i inner conns

abbrev pub part_bits : (Entry → List ℕ → List BitAt) → List ℕ → ℕ → List Connection → Option Entry → List BitAt
part_bits below path i conns None = []
part_bits below path i conns (Some inner) = connections_bits path i inner conns ++ below inner (path ++ i ∷ [])

-- i is the number of the first of the parts
abbrev pub parts_bits : Chips → (Entry → List ℕ → List BitAt) → List ℕ → ℕ → List Part → List BitAt
parts_bits chips below path i [] = []
parts_bits chips below path i (part ∷ parts) = part_bits below path i part.connections (find_chip chips part.chip) ++ parts_bits chips below path (suc i) parts

-- those of a chip at a path, in which parts nest at most d deep
abbrev pub tree_bits : ℕ → Chips → Entry → List ℕ → List BitAt
tree_bits zero chips chip path = []
tree_bits (suc d) chips chip path = parts_bits chips (λ inner q. tree_bits d chips inner q) path 0 (parts_of chips chip)

-- the bit is one of them
abbrev pub Among : BitAt → List BitAt → Type 0
Among x [] = ⊥
Among x (y ∷ ys) = (x ≡ y) ⊎ Among x ys
