-- What the directory of the Computer's netlist says is its wiring.
use Rattle.std.proofs.Common.{◌≡◌, ◌<◌, ℕ, zero, suc, Bool, true, false, List, [], ◌∷◌, length, drop, map, Option, Some, refl, ap, sym, subst, ◌∙◌, arith}
use Rattle.std.specs.Prelude.{IsSome, slice_get, codes, if◌then◌else◌}
use Rattle.std.specs.List.{All}
use Rattle.std.specs.Str.{bytes_eq}
use Rattle.std.proofs.lemmas.Option.{same_Some}
use Rattle.std.proofs.lemmas.List.Elements.{All-head, All-tail, All-drop, All-same}
use Rattle.hdl_tree.specs.declared.library.Entry.{Entry}
use Rattle.hdl_tree.specs.declared.ends.End.TheVariants as ends
use Rattle.hdl_tree.specs.declared.tree.Chip.{Chip}
use Rattle.hdl_tree.specs.declared.ends.Memories.TheVariants.{Blocks}
use Rattle.hdl_tree.specs.Chips.{find_entry, parts_of}
use Rattle.hdl_tree.specs.Behaviour.{Wires, Each}
use Rattle.netlist.specs.Net.{Net}
use Rattle.chip_basic.specs.Hdl.{shipped_entry}
use Rattle.chip_memory.specs.Trees.{a_register_tree, ram16k_tree, screen_tree}
use Rattle.hdl_nodes.specs.Numbering.{nodes_of}
use Rattle.hdl_flatten.specs.declared.flat.PinAt.{PinAt}
use Rattle.hdl_flatten.specs.declared.flat.PartAt.{PartAt}
use Rattle.hdl_flatten.specs.Trees.{all_bits}
use Rattle.hdl_flatten.specs.Flat.{IsFlat, IsEndBit, nodes_at, block_at, part_at}
use Rattle.hack_cpu.specs.Trees.{rom_tree, keyboard_tree, cpu_tree}
use Rattle.hack_cpu.specs.Library.{shipped_chips}
use Rattle.hack_cpu.proofs.HasAll.{has_all}
use Rattle.hack_cpu.proofs.Opened.{opened}
use Rattle.gate_computer.specs.declared.wiring.Wiring.{Wiring}
use Rattle.gate_computer.specs.declared.wiring.WiredPart.{WiredPart}
use Rattle.gate_computer.specs.Computer.{chips, computer}
use Rattle.gate_computer.specs.Wiring.{IsWired, HasOwnPins, HasNodes, TellsPins, TellsBlocks, cpu_path, a_register_path, rom_path, main_path, screen_path, keyboard_path}
use Rattle.gate_computer.specs.Inner.Directory.{first_named, outs_in, block_in, outs_named, block_named, outputs_of, wired_part, AreTold, CanTell, IsToldBy}
use Rattle.gate_computer.proofs.Paths.{rom_stands, main_stands, screen_stands, keyboard_stands}
use Rattle.gate_computer.proofs.Standing.{StandOnce, stand_once}
use Rattle.gate_computer.proofs.Turning.{turned_all}
use Rattle.gate_computer.proofs.Listing.{IsFound, all_found, all_told, all_wired, first_part}

-- ---- the nodes of outputs

keyboard_outs : (at : Wires ℕ) → nodes_at at (all_bits (shipped_entry keyboard_tree).chip.outputs) ≡ nodes_of 16 (at (codes "out"))
unfolding opened
keyboard_outs at = refl

a_outs : (at : Wires ℕ) → nodes_at at (all_bits (shipped_entry a_register_tree).chip.outputs) ≡ nodes_of 16 (at (codes "out"))
unfolding opened
a_outs at = refl

pc_outs : (at : Wires ℕ) → drop 32 (nodes_at at (all_bits (shipped_entry cpu_tree).chip.outputs)) ≡ nodes_of 15 (at (codes "pc"))
unfolding opened
pc_outs at = refl

cpu_long : (at : Wires ℕ) → length (nodes_at at (all_bits (shipped_entry cpu_tree).chip.outputs)) ≡ 47
unfolding opened
cpu_long at = refl

-- ---- what holds of each part of a directory

pub some_is : {A : Type 0} (o : Option A) (a : A) → o ≡ Some a → IsSome o
some_is o a e = subst (λ x. IsSome x) (sym e) refl

abbrev OutsHold : (ℕ → Type 0) → PartAt → Type 0
OutsHold P part = All P part.outs

first_all : (P : ℕ → Type 0) (name : List ℕ) (parts : List PartAt) (part : PartAt) → All (OutsHold P) parts → first_named name parts ≡ Some part → All P part.outs
first_all P name [] part h e = absurd cc
first_all P name (p ∷ parts) part h e = by (bytes_eq name p.chip) refl (first_all P name parts part (All-tail (OutsHold P) p parts h))
  where
    by : (b : Bool) → bytes_eq name p.chip ≡ b → (first_named name parts ≡ Some part → All P part.outs) → All P part.outs
    by true t go =
        let is : Some p ≡ Some part = sym (ap (λ b. if b then Some p else first_named name parts) t) ∙ e in
        let same : p ≡ part = cc in
        subst (OutsHold P) same (All-head (OutsHold P) p parts h)
    by false t go = go (sym (ap (λ b. if b then Some p else first_named name parts) t) ∙ e)

wired_all : (P : ℕ → Type 0) (entries : List Entry) (parts : List PartAt) → All (OutsHold P) parts → (i : ℕ) (part : WiredPart) → slice_get (map (wired_part entries) parts) i ≡ Some part → All P part.outputs
wired_all P entries [] h i part e = absurd cc
wired_all P entries (p ∷ parts) h zero part e =
    let same : wired_part entries p ≡ part = cc in
    subst (λ (x : WiredPart). All P x.outputs) same (turned_all P (outputs_of (find_entry entries p.chip)) p.outs (All-head (OutsHold P) p parts h))
wired_all P entries (p ∷ parts) h (suc i) part e = wired_all P entries parts (All-tail (OutsHold P) p parts h) i part e

module _ (net : Net) (pins : List PinAt) (parts : List PartAt) (flat : IsFlat chips computer (record { nodes = net.nodes; blocks = net.blocks; pins = pins; parts = parts })) where
  -- ---- the parts that the wiring names

  abbrev told_at : List ℕ → Chip → PartAt
  told_at path tree = part_at chips flat.at flat.block (record { path = path; chip = shipped_entry tree })

  found : Each (IsFound chips) flat.tree
  found = all_found chips 0 (parts_of chips computer) flat.tree flat.listed

  once : StandOnce flat.tree
  once = stand_once flat.tree flat.listed

  cpu_first : first_named (codes "CPU") parts ≡ Some (told_at cpu_path cpu_tree)
  cpu_first = ap (first_named (codes "CPU")) flat.parts ∙ first_part chips flat.at flat.block (codes "CPU") (shipped_entry cpu_tree) flat.tree cpu_path found (has_all Blocks).cpu once.cpu

  a_first : first_named (codes "ARegister") parts ≡ Some (told_at a_register_path a_register_tree)
  a_first = ap (first_named (codes "ARegister")) flat.parts ∙ first_part chips flat.at flat.block (codes "ARegister") (shipped_entry a_register_tree) flat.tree a_register_path found (has_all Blocks).memories.a_register once.a_register

  rom_first : first_named (codes "ROM32K") parts ≡ Some (told_at rom_path rom_tree)
  rom_first = ap (first_named (codes "ROM32K")) flat.parts ∙ first_part chips flat.at flat.block (codes "ROM32K") (shipped_entry rom_tree) flat.tree rom_path found (has_all Blocks).rom once.rom

  main_first : first_named (codes "RAM16K") parts ≡ Some (told_at main_path ram16k_tree)
  main_first = ap (first_named (codes "RAM16K")) flat.parts ∙ first_part chips flat.at flat.block (codes "RAM16K") (shipped_entry ram16k_tree) flat.tree main_path found (has_all Blocks).memories.ram16k once.main

  screen_first : first_named (codes "Screen") parts ≡ Some (told_at screen_path screen_tree)
  screen_first = ap (first_named (codes "Screen")) flat.parts ∙ first_part chips flat.at flat.block (codes "Screen") (shipped_entry screen_tree) flat.tree screen_path found (has_all Blocks).memories.screen once.screen

  keyboard_first : first_named (codes "Keyboard") parts ≡ Some (told_at keyboard_path keyboard_tree)
  keyboard_first = ap (first_named (codes "Keyboard")) flat.parts ∙ first_part chips flat.at flat.block (codes "Keyboard") (shipped_entry keyboard_tree) flat.tree keyboard_path found (has_all Blocks).keyboard once.keyboard

  rom_block : block_named (codes "ROM32K") parts ≡ Some (flat.block rom_path)
  rom_block = ap block_in rom_first ∙ ap (λ o. block_at o (flat.block rom_path)) rom_stands.1

  main_block : block_named (codes "RAM16K") parts ≡ Some (flat.block main_path)
  main_block = ap block_in main_first ∙ ap (λ o. block_at o (flat.block main_path)) main_stands.1

  screen_block : block_named (codes "Screen") parts ≡ Some (flat.block screen_path)
  screen_block = ap block_in screen_first ∙ ap (λ o. block_at o (flat.block screen_path)) screen_stands.1

  pub can_tell : CanTell shipped_chips parts
  can_tell = record {
    keyboard = some_is (first_named (codes "Keyboard") parts) (told_at keyboard_path keyboard_tree) keyboard_first;
    cpu = some_is (first_named (codes "CPU") parts) (told_at cpu_path cpu_tree) cpu_first;
    pc =
        let long : length (outs_named (codes "CPU") parts) ≡ 47 = ap (λ (o : Option PartAt). length (outs_in o)) cpu_first ∙ cpu_long (flat.at cpu_path) in
        omega (arith, long);
    a = some_is (first_named (codes "ARegister") parts) (told_at a_register_path a_register_tree) a_first;
    rom = some_is (block_named (codes "ROM32K") parts) (flat.block rom_path) rom_block;
    main = some_is (block_named (codes "RAM16K") parts) (flat.block main_path) main_block;
    screen = some_is (block_named (codes "Screen") parts) (flat.block screen_path) screen_block;
    told = subst (λ (l : List PartAt). AreTold shipped_chips l) (sym flat.parts) (all_told chips flat.at flat.block flat.tree found);
  }

  -- ---- pins of their own

  keyboard_bit : (k : ℕ) → k < 16 → IsEndBit chips computer flat.at (flat.at keyboard_path (codes "out") k)
  keyboard_bit k less = record {
    path = keyboard_path;
    chip = shipped_entry keyboard_tree;
    e = ends.Keyboard;
    bit = k;
    there = keyboard_stands.0;
    is_end = keyboard_stands.1;
    below = less;
    node = refl;
  }

  -- the same bit at a node that is the same
  moved_bit : (j k : ℕ) → IsEndBit chips computer flat.at j → j ≡ k → IsEndBit chips computer flat.at k
  moved_bit j k x same = record {
    path = x.path;
    chip = x.chip;
    e = x.e;
    bit = x.bit;
    there = x.there;
    is_end = x.is_end;
    below = x.below;
    node = x.node ∙ same;
  }

  -- the only bit of the Computer's inputs
  reset_is : slice_get (all_bits computer.chip.inputs) 0 ≡ Some (record { name = codes "reset"; bit = 0 })
  unfolding opened
  reset_is = refl

  own_pins : HasOwnPins net flat.at
  unfolding keyboard_bit moved_bit
  own_pins = record {
    reset = flat.inputs 0 (record { name = codes "reset"; bit = 0 }) reset_is;
    keys_apart = λ j k less near same.
        let one = flat.alone (flat.at keyboard_path (codes "out") k) (moved_bit (flat.at keyboard_path (codes "out") j) (flat.at keyboard_path (codes "out") k) (keyboard_bit j (omega arith)) same) (keyboard_bit k near) in
        let bits : j ≡ k = one.1 in
        omega (arith, bits, less);
    reset_apart = λ k near same.
        flat.outside 0 (record { name = codes "reset"; bit = 0 }) reset_is (moved_bit (flat.at keyboard_path (codes "out") k) (flat.at [] (codes "reset") 0) (keyboard_bit k near) same);
  }

  -- ---- the wiring

  module _ (w : Wiring) (told : IsToldBy shipped_chips parts w) where
    tells_pins : TellsPins w flat.at
    tells_pins = record {
      keyboard = told.keyboard ∙ ap outs_in keyboard_first ∙ keyboard_outs (flat.at keyboard_path);
      pc = told.pc ∙ ap (λ (o : Option PartAt). drop 32 (outs_in o)) cpu_first ∙ pc_outs (flat.at cpu_path);
      a = told.a ∙ ap outs_in a_first ∙ a_outs (flat.at a_register_path);
      places = flat.tree;
      all_places = flat.listed;
      parts = told.wired ∙ ap Some (ap (λ (l : List PartAt). map (wired_part shipped_chips) l) flat.parts ∙ all_wired chips flat.at flat.block flat.tree found);
    }

    number_is : (o : Option ℕ) (a b : ℕ) → o ≡ Some a → o ≡ Some b → a ≡ b
    number_is o a b e f = let both : Some a ≡ Some b = sym e ∙ f in cc

    tells_blocks : TellsBlocks w flat.block
    tells_blocks = record {
      rom = number_is (block_named (codes "ROM32K") parts) w.rom (flat.block rom_path) told.rom rom_block;
      main = number_is (block_named (codes "RAM16K") parts) w.main (flat.block main_path) told.main main_block;
      screen = number_is (block_named (codes "Screen") parts) w.screen (flat.block screen_path) told.screen screen_block;
    }

    abbrev IsThere : ℕ → Type 0
    IsThere node = node < length net.nodes

    has_nodes : HasNodes net w
    has_nodes = record {
      pc = All-same IsThere w.pc (drop 32 (told_at cpu_path cpu_tree).outs) (told.pc ∙ ap (λ (o : Option PartAt). drop 32 (outs_in o)) cpu_first)
          (All-drop IsThere 32 (told_at cpu_path cpu_tree).outs (first_all IsThere (codes "CPU") parts (told_at cpu_path cpu_tree) flat.parts_there cpu_first));
      a = All-same IsThere w.a (told_at a_register_path a_register_tree).outs (told.a ∙ ap outs_in a_first)
          (first_all IsThere (codes "ARegister") parts (told_at a_register_path a_register_tree) flat.parts_there a_first);
      outputs = λ all is i part e. wired_all IsThere shipped_chips parts flat.parts_there i part (ap (λ (l : List WiredPart). slice_get l i) (same_Some (map (wired_part shipped_chips) parts) all (sym told.wired ∙ is)) ∙ e);
    }

    pub is_wired : IsWired net w
    is_wired = record {
      elab = record { net = net; pins = pins; parts = parts };
      elaborated = flat;
      is_net = refl;
      low = flat.low;
      high = flat.high;
      block = flat.block;
      at = flat.at;
      numbering = flat.numbering;
      own_pins = own_pins;
      pins = tells_pins;
      blocks = tells_blocks;
      nodes = has_nodes;
    }
