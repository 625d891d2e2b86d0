-- How many nodes a chip needs, by a table. Where the count of each chip of a library is given by those of its parts, so is that of a whole
-- tree.
use Rattle.std.proofs.Common.{◌≡◌, ◌+◌, ◌≤◌, ℕ, suc, Bool, true, List, [], ◌∷◌, ◌++◌, Some, refl, ap, ◌∙◌, arith}
use Rattle.std.specs.Prelude.{unwrap_or, nat_eq, nat_lt, codes, slice_get, if◌then◌else◌}
use Rattle.std.proofs.lemmas.Bool.Decides.{Decides-eqb, Decides-ltb}
use Rattle.hdl_tree.specs.declared.tree.Part.{Part}
use Rattle.hdl_tree.specs.declared.library.Entry.{Entry}
use Rattle.hdl_tree.specs.declared.ends.Memories.{Memories}
use Rattle.hdl_tree.specs.declared.ends.Memories.TheVariants.{Blocks, Gates}
use Rattle.hdl_tree.specs.Chips.{are_blocks, Chips, find_chip, parts_of}
use Rattle.hdl_tree.specs.Writable.{all}
use Rattle.hdl_check.specs.Whole.{chips_in}
use Rattle.name_table.specs.Names.{find_value}
use Rattle.hdl_check.proofs.Order.{not_both}
use Rattle.hdl_flatten.specs.Trees.{PartIn, within, AreListed, none, next, IsTree, bit_count, chip_nodes, part_nodes, node_count}
use Rattle.hdl_elab.specs.declared.fault.ElaborationFault.{ElaborationFault}
use Rattle.hdl_elab.specs.declared.fault.ElaborationFault.TheVariants as faults
use Rattle.hdl_elab.specs.Faults.{IsFaultOf, IsFine}
use Rattle.gate_computer.specs.Computer.{computer}
use Rattle.gate_computer.specs.Nodes.{NodesLaw, computer_nodes}
use Rattle.hack_cpu.specs.Library.{shipped_chips}
use Rattle.hdl_behaviours.proofs.Clean.{find_in}
use Rattle.hdl_behaviours.proofs.Levels.{all_at}
use Rattle.hack_cpu.proofs.Opened.{opened}
use Rattle.hack_cpu.proofs.Shown.{no_fault, no_loop}

nodes-append : (chips : Chips) (a b : List PartIn) → part_nodes chips (a ++ b) ≡ part_nodes chips a + part_nodes chips b
nodes-append chips [] b = omega arith
nodes-append chips (p ∷ a) b = let h = nodes-append chips a b in omega (arith, h)

nodes-within : (chips : Chips) (i : ℕ) (tree : List PartIn) → part_nodes chips (within i tree) ≡ part_nodes chips tree
nodes-within chips i [] = refl
nodes-within chips i (p ∷ tree) = ap (λ n. chip_nodes chips p.chip + n) (nodes-within chips i tree)

module _ (chips : Chips) (table : List (List ℕ × ℕ)) where
  -- the nodes of the ends in a chip of this name
  abbrev told_of : List ℕ → ℕ
  told_of name = unwrap_or (find_value name table) 0

  abbrev diagnostic_in : List Part → ℕ
  diagnostic_in [] = 0
  diagnostic_in (part ∷ parts) = told_of part.chip + diagnostic_in parts

  abbrev is_told : Entry → Bool
  is_told chip = nat_eq (told_of chip.name) (chip_nodes chips chip + diagnostic_in (parts_of chips chip))

  module _ (told : all is_told chips.entries ≡ true) where
    told_at : (i : ℕ) (chip : Entry) → slice_get chips.entries i ≡ Some chip → told_of chip.name ≡ chip_nodes chips chip + diagnostic_in (parts_of chips chip)
    told_at i chip there = (Decides-eqb (told_of chip.name) (chip_nodes chips chip + diagnostic_in (parts_of chips chip))).0 (all_at is_told chips.entries told i chip there)

    told_found : (name : List ℕ) (chip : Entry) → find_chip chips name ≡ Some chip → told_of name ≡ chip_nodes chips chip + diagnostic_in (parts_of chips chip)
    told_found name chip found_it =
        let r = find_in chips.entries name chip found_it in
        ap told_of r.named ∙ told_at r.place chip r.there

    nodes_in : (i : ℕ) (parts : List Part) (tree : List PartIn) → AreListed chips i parts tree → part_nodes chips tree ≡ diagnostic_in parts
    nodes_in i parts tree none = refl
    nodes_in i parts tree (next {part = part} {parts = behind} {chip = chip} {inner = inner} {others = others} found_it inside after) =
        let whole = nodes-append chips (within i inner) others in
        let same = nodes-within chips i inner in
        let a = nodes_in 0 (parts_of chips chip) inner inside in
        let b = nodes_in (suc i) behind others after in
        let c = told_found part.chip chip found_it in
        omega (arith, whole, same, a, b, c)

    -- the nodes of a chip of the library, with its inputs and the constants
    count_at : (i : ℕ) (chip : Entry) (tree : List PartIn) → slice_get chips.entries i ≡ Some chip → IsTree chips chip tree → node_count chips chip tree ≡ (bit_count chip.chip.inputs + told_of chip.name) + 2
    count_at i chip tree there is =
        let a = told_at i chip there in
        let b = nodes_in 0 (parts_of chips chip) tree is in
        omega (arith, a, b)

-- ---- the shipped chips

-- the nodes of the ends in each of them, with blocks or with memories of gates
abbrev table_of : Memories → List (List ℕ × ℕ)
table_of memories =
    (codes "Nand", 1) ∷ (codes "Not", 1) ∷ (codes "And", 2) ∷ (codes "Or", 3) ∷ (codes "Xor", 4) ∷ (codes "Mux", 4) ∷ (codes "DMux", 5) ∷ (codes "Not16", 16) ∷ (codes "And16", 32) ∷ (codes "Or16", 48) ∷ (codes "Mux16", 64)
    ∷ (codes "Or8Way", 21) ∷ (codes "Mux4Way16", 192) ∷ (codes "Mux8Way16", 448) ∷ (codes "DMux4Way", 15) ∷ (codes "DMux8Way", 35)
    ∷ (codes "HalfAdder", 6) ∷ (codes "FullAdder", 15) ∷ (codes "Add16", 231) ∷ (codes "Inc16", 231) ∷ (codes "ALU", 741) ∷ (codes "Shift", 64)
    ∷ (codes "DFF", 1) ∷ (codes "Bit", 5) ∷ (codes "Register", 80) ∷ (codes "ARegister", 80) ∷ (codes "DRegister", 80) ∷ (codes "PC", 503)
    ∷ (codes "RAM8", if are_blocks memories then 16 else 1123) ∷ (codes "RAM64", if are_blocks memories then 16 else 9467) ∷ (codes "RAM512", if are_blocks memories then 16 else 76219) ∷ (codes "RAM4K", if are_blocks memories then 16 else 610235)
    ∷ (codes "RAM16K", if are_blocks memories then 16 else 2441147) ∷ (codes "Screen", if are_blocks memories then 16 else 1220539)
    ∷ (codes "ROM32K", 16) ∷ (codes "Keyboard", 16) ∷ (codes "CPU", 1801) ∷ (codes "Memory", if are_blocks memories then 184 else 3661838) ∷ (codes "Computer", if are_blocks memories then 2001 else 3663655) ∷ []

all_told : (memories : Memories) → all (is_told (chips_in shipped_chips memories) (table_of memories)) shipped_chips ≡ true
unfolding opened
all_told Blocks = refl
all_told Gates = refl

computer_told : (memories : Memories) → diagnostic_in (chips_in shipped_chips memories) (table_of memories) (parts_of (chips_in shipped_chips memories) computer) ≡ (if are_blocks memories then 2001 else 3663655)
unfolding opened
computer_told Blocks = refl
computer_told Gates = refl

count_by : (memories : Memories) (tree : List PartIn) (n : ℕ) → part_nodes (chips_in shipped_chips memories) tree ≡ n → node_count (chips_in shipped_chips memories) computer tree ≡ n + 3
unfolding opened
count_by memories tree n e = omega (arith, e)

computer_count : (memories : Memories) (tree : List PartIn) → IsTree (chips_in shipped_chips memories) computer tree → node_count (chips_in shipped_chips memories) computer tree ≡ computer_nodes memories
computer_count Blocks tree is = count_by Blocks tree 2001 (nodes_in (chips_in shipped_chips Blocks) (table_of Blocks) (all_told Blocks) 0 _ tree is ∙ computer_told Blocks)
computer_count Gates tree is = count_by Gates tree 3663655 (nodes_in (chips_in shipped_chips Gates) (table_of Gates) (all_told Gates) 0 _ tree is ∙ computer_told Gates)

-- ---- no shipped chip needs more

abbrev count_of : Memories → Entry → ℕ
count_of memories chip = (bit_count chip.chip.inputs + told_of (chips_in shipped_chips memories) (table_of memories) chip.name) + 2

abbrev is_small : Memories → Entry → Bool
is_small memories chip = nat_lt (count_of memories chip) (computer_nodes memories + 1)

all_small : (memories : Memories) → all (is_small memories) shipped_chips ≡ true
unfolding opened
all_small Blocks = refl
all_small Gates = refl

most : (memories : Memories) (i : ℕ) (entry : Entry) (tree : List PartIn) → slice_get shipped_chips i ≡ Some entry → IsTree (chips_in shipped_chips memories) entry tree → node_count (chips_in shipped_chips memories) entry tree ≤ computer_nodes memories
most memories i entry tree there is =
    let n = count_at (chips_in shipped_chips memories) (table_of memories) (all_told memories) i entry tree there is in
    let small = (Decides-ltb (count_of memories entry) (computer_nodes memories + 1)).0 (all_at (is_small memories) shipped_chips (all_small memories) i entry there) in
    omega (arith, n, small)

-- ---- nothing is wrong with any

few_nodes : (memories : Memories) (n : ℕ) → n ≤ computer_nodes memories → n ≤ 16777216
few_nodes Blocks n le = omega (arith, le)
few_nodes Gates n le = omega (arith, le)

fine : (memories : Memories) (i : ℕ) (entry : Entry) → slice_get shipped_chips i ≡ Some entry → IsFine (chips_in shipped_chips memories) entry
fine memories i entry there = record {
  no_fault = no_fault memories i entry there;
  no_loop = (no_loop memories i entry there).no_loop;
  few = λ tree is. few_nodes memories (node_count (chips_in shipped_chips memories) entry tree) (most memories i entry tree there is);
}

only_memory : (chips : Chips) (entry : Entry) (f : ElaborationFault) → IsFine chips entry → IsFaultOf chips entry f → f ≡ faults.Memory
only_memory chips entry faults.Memory is h = refl
only_memory chips entry (faults.Named f) is h = absurd (not_both chips (entry.name ∷ []) entry f h is.no_fault)
only_memory chips entry (faults.Loop nets) is h = absurd (is.no_loop nets h.1)
only_memory chips entry (faults.TooManyNodes n) is h = let le = is.few h.2.tree h.2.listed in let lt = h.2.many in absurd (omega (arith, le, lt))

pub nodes : NodesLaw
nodes = record {
  count = computer_count;
  most = most;
  fine = fine;
  no_fault = λ memories i entry f there h. only_memory (chips_in shipped_chips memories) entry f (fine memories i entry there) h;
}
