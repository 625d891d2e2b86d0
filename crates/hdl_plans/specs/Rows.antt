-- Facts about small chips: what the definitions of ends, behaviours and loops come to. (The book, chapters 1 and 3, and appendix 2.)
use Prim.Native.String.{String}
use Rattle.std.specs.Prelude.{◌≡◌, ℕ, ◌<◌, ◌^◌, Bool, true, false, List, [], ◌∷◌, Option, Some, None, map, codes}
use Rattle.hdl_tree.specs.declared.tree.Pin.{Pin}
use Rattle.hdl_tree.specs.declared.tree.Subscript.{Subscript}
use Rattle.hdl_tree.specs.declared.tree.Subscript.TheVariants.{Bit}
use Rattle.hdl_tree.specs.declared.tree.Selection.{Selection}
use Rattle.hdl_tree.specs.declared.tree.Source.TheVariants as source
use Rattle.hdl_tree.specs.declared.tree.Connection.{Connection}
use Rattle.hdl_tree.specs.declared.tree.Part.{Part}
use Rattle.hdl_tree.specs.declared.tree.Body.TheVariants.{Parts, Builtin}
use Rattle.hdl_tree.specs.declared.library.Entry.{Entry}
use Rattle.hdl_tree.specs.declared.ends.End.{End}
use Rattle.hdl_tree.specs.declared.ends.End.TheVariants as ends
use Rattle.hdl_tree.specs.declared.ends.Memories.TheVariants.{Blocks, Gates}
use Rattle.hdl_tree.specs.Chips.{Chips, end_named}
use Rattle.hdl_tree.specs.Behaviour.{Histories, World, IsBehaviour}
use Rattle.hdl_plans.specs.Loops.{BitAt, IsBitCircle, IsLoop}

-- ---- trees in the words of HDL texts

-- `name[width]`
abbrev pub pin : String → ℕ → Pin
pin name width = record { name = codes name; width = Some width }

abbrev pub select : String → Option Subscript → Selection
select name subscript = record { name = codes name; subscript = subscript }

abbrev pub connect : String → Option Subscript → String → Option Subscript → Connection
connect pin bits net net_bits = record { pin = select pin bits; source = source.Net (select net net_bits) }

-- `pin=net`
abbrev pub wire : String → String → Connection
wire pin net = connect pin None net None

-- `pin[bit]=net`
abbrev pub bit_wire : String → ℕ → String → Connection
bit_wire pin bit net = connect pin (Some (Bit bit)) net None

-- `pin=net[bit]`
abbrev pub wire_bit : String → String → ℕ → Connection
wire_bit pin net bit = connect pin None net (Some (Bit bit))

-- `chip(connections);`
abbrev pub part : String → List Connection → Part
part chip connections = record { chip = codes chip; connections = connections }

-- a chip that is built in, as shipped
abbrev pub shipped_end : String → List Pin → List Pin → Entry
shipped_end name inputs outputs = record { name = codes name; chip = record { name = codes name; inputs = inputs; outputs = outputs; body = Builtin (codes name) [] }; shipped = Some (codes name) }

abbrev pub nand : Entry
nand = shipped_end "Nand" (pin "a" 1 ∷ pin "b" 1 ∷ []) (pin "out" 1 ∷ [])

abbrev pub dff : Entry
dff = shipped_end "DFF" (pin "in" 1 ∷ []) (pin "out" 1 ∷ [])

abbrev pub ram8 : Entry
ram8 = shipped_end "RAM8" (pin "in" 16 ∷ pin "load" 1 ∷ pin "address" 3 ∷ []) (pin "out" 16 ∷ [])

-- `CHIP F { IN in; OUT out[2]; PARTS: .. }`
abbrev pub made_of : List Part → Entry
made_of parts = record { name = codes "F"; chip = record { name = codes "F"; inputs = pin "in" 1 ∷ []; outputs = pin "out" 2 ∷ []; body = Parts parts }; shipped = None }

-- the chip beside Nand, DFF and RAM8, which is a block
abbrev pub beside : Entry → Chips
beside chip = record { entries = chip ∷ nand ∷ dff ∷ ram8 ∷ []; memories = Blocks }

-- ---- chips

-- a gate with one input joined, which drives one of two bits
abbrev pub half_driven : Entry
half_driven = made_of (part "Nand" (wire "a" "in" ∷ wire_bit "out" "out" 0 ∷ []) ∷ [])

-- a gate that is fed with what it gives
abbrev pub gate_ring : Entry
gate_ring = made_of (part "Nand" (wire "a" "x" ∷ wire "b" "x" ∷ wire "out" "x" ∷ []) ∷ [])

-- a memory whose address is fed, through a gate, with a bit that it gives
abbrev pub address_ring : Entry
address_ring = made_of (part "Nand" (wire "a" "x" ∷ wire "b" "x" ∷ wire "out" "y" ∷ []) ∷ part "RAM8" (bit_wire "address" 0 "y" ∷ bit_wire "out" 0 "x" ∷ []) ∷ [])

-- a flip-flop that is fed with what it gives, and a memory whose word and load are
abbrev pub clocked_rings : Entry
clocked_rings = made_of (part "DFF" (wire "in" "x" ∷ wire "out" "x" ∷ []) ∷ part "RAM8" (wire "in" "y" ∷ wire "load" "z" ∷ wire "out" "y" ∷ bit_wire "out" 0 "z" ∷ []) ∷ [])

-- two rings of gates that share a net: x over y, and x over z
abbrev pub two_rings : Entry
two_rings = made_of (part "Nand" (wire "a" "y" ∷ wire "b" "z" ∷ wire "out" "x" ∷ []) ∷ part "Nand" (wire "a" "x" ∷ wire "b" "x" ∷ wire "out" "y" ∷ []) ∷ part "Nand" (wire "a" "x" ∷ wire "b" "x" ∷ wire "out" "z" ∷ []) ∷ [])

-- ---- blocks

-- how many words a block has
abbrev pub words : Option End → Option ℕ
words (Some (ends.Block bits)) = Some (2 ^ bits)
words other = None

abbrev pub memories : List (List ℕ)
memories = codes "RAM8" ∷ codes "RAM64" ∷ codes "RAM512" ∷ codes "RAM4K" ∷ codes "RAM16K" ∷ codes "Screen" ∷ []

-- ---- the rows

-- what holds of bits 0 and 1 of the output of half_driven in each cycle of each behaviour
abbrev pub Gives : (Bool → Bool → Type 0) → Type 0
Gives P = (world : World) (n c : ℕ) (wires : List ℕ → Histories) → IsBehaviour world (beside half_driven) half_driven n wires → c < n → P (wires [] (codes "out") 0 c) (wires [] (codes "out") 1 c)

-- a behaviour of half_driven over n cycles in which this comes in
pub record Behaves (world : World) (n : ℕ) (input : ℕ → Bool) : Type 0 where
  pub wires : List ℕ → Histories
  pub behaves : IsBehaviour world (beside half_driven) half_driven n wires
  pub hears : (c : ℕ) → wires [] (codes "in") 0 c ≡ input c

pub record RowsLaw : Type 0 where
  -- a memory has as many words as its name says, and the screen 8,192
  pub sizes : map (λ name. words (end_named Blocks name)) memories
      ≡ Some 8 ∷ Some 64 ∷ Some 512 ∷ Some 4096 ∷ Some 16384 ∷ Some 8192 ∷ []
  -- where memories are no blocks they are no ends
  pub no_blocks : map (end_named Gates) memories ≡ None ∷ None ∷ None ∷ None ∷ None ∷ None ∷ []
  -- whatever comes in, there is a behaviour
  pub behaves : (world : World) (n : ℕ) (input : ℕ → Bool) → Behaves world n input
  -- an input that is not joined is 0, so its Nand gives 1
  pub unjoined_is_low : Gives (λ first second. first ≡ true)
  -- an output bit that nothing drives is 0
  pub undriven_is_low : Gives (λ first second. second ≡ false)
  pub gate_loop : IsLoop (beside gate_ring) gate_ring (codes "x" ∷ [])
  pub address_loop : IsLoop (beside address_ring) address_ring (codes "x" ∷ codes "y" ∷ [])
  -- each of two rings that share a net is a loop
  pub first_ring : IsLoop (beside two_rings) two_rings (codes "x" ∷ codes "y" ∷ [])
  pub second_ring : IsLoop (beside two_rings) two_rings (codes "x" ∷ codes "z" ∷ [])
  -- the one walked after the other is none
  pub no_double_ring : IsLoop (beside two_rings) two_rings (codes "x" ∷ codes "y" ∷ codes "z" ∷ [])
      → ⊥
  -- two rings that share a bit are no circle
  pub no_bit_twice : (chips : Chips) (top : Entry) (x y z : BitAt)
      → IsBitCircle chips top (x ∷ y ∷ x ∷ z ∷ []) → ⊥
  -- no loop goes through a flip-flop, nor through a block by its word or its load
  pub no_clocked_loop : (nets : List (List ℕ)) → IsLoop (beside clocked_rings) clocked_rings nets
      → ⊥
