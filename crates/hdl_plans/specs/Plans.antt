-- The plan of a chip: which output of a part drives each bit of a net, and what feeds each bit of a part's input. (The book, appendix 2.)
use Rattle.std.specs.Prelude.{◌≡◌, ℕ, zero, suc, ◌+◌, ◌<◌, Bool, true, false, cond, List, Option, Some, None, slice_get, codes, is_some}
use Rattle.hdl_tree.specs.declared.tree.Source.{Source}
use Rattle.hdl_tree.specs.declared.tree.Source.TheVariants as source
use Rattle.hdl_tree.specs.declared.ends.End.{End}
use Rattle.hdl_tree.specs.declared.ends.End.TheVariants as ends
use Rattle.hdl_tree.specs.declared.tree.Connection.{Connection}
use Rattle.hdl_tree.specs.declared.tree.Part.{Part}
use Rattle.hdl_tree.specs.declared.library.Entry.{Entry}
use Rattle.hdl_tree.specs.Chips.{Chips, end_of, find_chip, parts_of, first, count}
use Rattle.hdl_tree.specs.Behaviour.{inner_chip, width_in, width_of, reaches, drives, some}

-- an output bit of a part
pub record Place : Type 0 where
  pub part : ℕ
  pub pin : List ℕ
  pub bit : ℕ

-- what feeds an input bit of a part
pub data Origin : Type 0 where
  FromNet : List ℕ → ℕ → Origin
  Low : Origin
  High : Origin

-- which output drives a bit of a net, and what feeds a bit of a part's pin: part, pin, bit
pub record Plan : Type 0 where
  pub driver : List ℕ → ℕ → Option Place
  pub origin : ℕ → List ℕ → ℕ → Origin

abbrev pub origin_of : Source → ℕ → Origin
origin_of (source.Net w) k = FromNet w.name (first w.subscript + k)
origin_of (source.Constant b) k = cond b High Low

abbrev pub is_input : Entry → List ℕ → Bool
is_input chip name = is_some (width_in chip.chip.inputs name)

-- bit k of an output is what drives its net
abbrev pub IsDriver : Plan → Entry → ℕ → Connection → ℕ → Source → Type 0
IsDriver plan chip i conn k (source.Net w) = (is_input chip w.name ≡ false) × (plan.driver w.name (first w.subscript + k) ≡ Some (record { part = i; pin = conn.pin.name; bit = first conn.pin.subscript + k }))
IsDriver plan chip i conn k (source.Constant b) = ⊥

-- the plan of a chip without faults
pub record IsPlan (library : Chips) (chip : Entry) (plan : Plan) : Type 0 where
  pub output : (i j k : ℕ) (part : Part) (inner : Entry) (conn : Connection)
      → slice_get (parts_of library chip) i ≡ Some part → find_chip library part.chip ≡ Some inner
      → slice_get part.connections j ≡ Some conn → is_input inner conn.pin.name ≡ false
      → k < count conn.pin.subscript (width_of inner conn.pin.name)
      → IsDriver plan chip i conn k conn.source
  pub input : (i j k : ℕ) (part : Part) (inner : Entry) (conn : Connection)
      → slice_get (parts_of library chip) i ≡ Some part → find_chip library part.chip ≡ Some inner
      → slice_get part.connections j ≡ Some conn → is_input inner conn.pin.name ≡ true
      → k < count conn.pin.subscript (width_of inner conn.pin.name)
      → plan.origin i conn.pin.name (first conn.pin.subscript + k) ≡ origin_of conn.source k
  pub unjoined : (i width bit : ℕ) (name : List ℕ) (part : Part) (inner : Entry)
      → slice_get (parts_of library chip) i ≡ Some part → find_chip library part.chip ≡ Some inner
      → width_in inner.chip.inputs name ≡ Some width → bit < width
      → some (reaches inner name bit) part.connections ≡ false → plan.origin i name bit ≡ Low
  pub undriven : (width bit : ℕ) (name : List ℕ) → width_in chip.chip.outputs name ≡ Some width
      → bit < width → some (drives library name bit) (parts_of library chip) ≡ false
      → (is_input chip name ≡ false) × (plan.driver name bit ≡ None)

-- an end with its pins
abbrev pub EndFits : Entry → Option End → Type 0
EndFits chip None = Unit {0}
EndFits chip (Some ends.Nand) = (is_input chip (codes "a") ≡ true) × (is_input chip (codes "b") ≡ true) × (is_input chip (codes "out") ≡ false)
EndFits chip (Some ends.Dff) = (is_input chip (codes "in") ≡ true) × (is_input chip (codes "out") ≡ false)
EndFits chip (Some ends.Keyboard) = is_input chip (codes "out") ≡ false
EndFits chip (Some ends.Rom) = (is_input chip (codes "address") ≡ true) × (is_input chip (codes "out") ≡ false)
EndFits chip (Some (ends.Block bits)) = (is_input chip (codes "in") ≡ true) × (is_input chip (codes "load") ≡ true) × (is_input chip (codes "address") ≡ true) × (is_input chip (codes "out") ≡ false)

-- a chip in which parts nest at most d deep, each with its plan
abbrev pub IsSound : ℕ → Chips → (Entry → Plan) → Entry → Type 0
IsSound zero library plan chip = ⊥
IsSound (suc d) library plan chip = IsPlan library chip (plan chip) × EndFits chip (end_of library.memories chip) × ((i : ℕ) (inner : Entry) → inner_chip library chip i ≡ Some inner → IsSound d library plan inner)
