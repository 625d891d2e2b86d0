-- The values of the netlist of the Computer are a behaviour of it.
use Rattle.std.proofs.Common.{◌≡◌, ◌≢◌, ◌<◌, ◌≤◌, ◌+◌, ◌-◌, ℕ, Bool, List, [], ◌∷◌, ◌++◌, length, Option, Some, None, refl, inl, inr, ap, ◌∙◌, sym, subst, arith, eq-eqb, ne_eqb}
use Rattle.std.specs.Prelude.{◌&&◌, if◌then◌else◌, nat_le, nat_lt, slice_get, slice_index, codes, MatchOption}
use Rattle.std.specs.List.{All}
use Rattle.std.proofs.lemmas.Bool.{cases_lt, le-leb, lt-ltb, le-ltb}
use Rattle.std.proofs.lemmas.List.{get_or_past, get_or_default}
use Rattle.word16.specs.Words.{has_bit}
use Rattle.simulation.specs.System.{IsKey}
use Rattle.hdl_tree.specs.declared.library.Entry.{Entry}
use Rattle.hdl_tree.specs.declared.ends.End.{End}
use Rattle.hdl_tree.specs.declared.ends.End.TheVariants as ends
use Rattle.hdl_tree.specs.declared.ends.Memories.TheVariants.{Blocks}
use Rattle.hdl_tree.specs.Memory.{number}
use Rattle.hdl_tree.specs.Chips.{end_of}
use Rattle.hdl_tree.specs.Behaviour.{Histories, ChipWired, chip_at}
use Rattle.netlist.specs.declared.node.Node.TheVariants.{Pin}
use Rattle.netlist.specs.declared.node.Block.{Block}
use Rattle.netlist.specs.Net.{Net}
use Rattle.netlist.specs.Order.{AreOrdered}
use Rattle.netlist.specs.Value.{Inputs, AreValues}
use Rattle.netlist.specs.Words.{after_load}
use Rattle.netlist.proofs.Exist.{values_of}
use Rattle.chip_basic.specs.Hdl.{shipped_entry}
use Rattle.hdl_nodes.specs.Numbering.{EndStands, EndHears, BlockStands, nodes_of, memory_block, rom_block}
use Rattle.hdl_nodes.proofs.Numbers.{number_same, number_word, at_row, row_length}
use Rattle.hdl_nodes.proofs.Numbered.{behaviour}
use Rattle.chip_memory.specs.Trees.{ram16k_tree, screen_tree}
use Rattle.hack_cpu.specs.Trees.{rom_tree, keyboard_tree}
use Rattle.hack_cpu.specs.Computer.{outside}
use Rattle.gate_computer.specs.declared.wiring.Wiring.{Wiring}
use Rattle.gate_computer.specs.Computer.{chips, computer, IsComputer}
use Rattle.gate_computer.specs.Wiring.{IsWired, rom_path, main_path, screen_path, keyboard_path}
use Rattle.gate_computer.specs.Calls.{ComesIn}
use Rattle.gate_computer.specs.Inner.Readable.{IsReadable}
use Rattle.gate_computer.proofs.Paths.{rom_is, keyboard_is, rom_stands, main_stands, screen_stands, keyboard_stands}
use Rattle.gate_computer.proofs.Keyboard.{Apart, at_pin, held_by}

-- ---- what comes from outside, by a wiring

-- the image is loaded, and the pins of the keyboard hold these keys
abbrev pub key_inputs : Wiring → List ℕ → (ℕ → ℕ) → Inputs
key_inputs w image keys = record { pin = λ c. at_pin w.keyboard 0 (has_bit (keys c)); loaded = λ b a. after_load w.rom 0 image b a 0 }

pub comes_in : (w : Wiring) (image : List ℕ) (keys : ℕ → ℕ) (n : ℕ) → Apart w.keyboard → ComesIn w image keys n (key_inputs w image keys)
comes_in w image keys n apart = record { loaded = λ b a. refl; pins = λ c less. held_by w.keyboard (keys c) apart }

-- ---- lists of nodes

wide_row : (n : ℕ) (f : ℕ → ℕ) (nodes : List ℕ) → nodes ≡ nodes_of n f → length nodes ≡ n
wide_row n f nodes e = ap (λ (l : List ℕ). length l) e ∙ row_length f n 0

node_is : (n : ℕ) (f : ℕ → ℕ) (nodes : List ℕ) (k : ℕ) → nodes ≡ nodes_of n f → k < n → slice_index nodes k ≡ f k
node_is n f nodes k e less = ap (λ (l : List ℕ). slice_index l k) e ∙ at_row f n 0 k less ∙ ap f (let z : 0 + k ≡ k = omega arith in z)

-- ---- the words that were loaded

loaded_here : (image : List ℕ) (rom b a : ℕ) → b ≡ rom → after_load rom 0 image b a 0 ≡ slice_index image a
loaded_here image rom b a e =
    ap (λ t. if t && (nat_le 0 a && nat_lt a (0 + length image)) then slice_index image (a - 0) else 0) (eq-eqb rom b (sym e))
    ∙ ap (λ t. if t && nat_lt a (0 + length image) then slice_index image (a - 0) else 0) (le-leb 0 a (omega arith))
    ∙ elim (cases_lt a (length image)) [
      | inl lt ↦
          ap (λ t. if t then slice_index image (a - 0) else 0) (lt-ltb a (0 + length image) (omega arith))
          ∙ ap (slice_index image) (let z : a - 0 ≡ a = omega arith in z)
      | inr le ↦
          ap (λ t. if t then slice_index image (a - 0) else 0) (le-ltb a (0 + length image) (omega arith))
          ∙ sym (get_or_past image a 0 le)
    ]

pub loaded_elsewhere : (image : List ℕ) (rom b a : ℕ) → rom ≢ b → after_load rom 0 image b a 0 ≡ 0
loaded_elsewhere image rom b a ne = ap (λ t. if t && (nat_le 0 a && nat_lt a (0 + length image)) then slice_index image (a - 0) else 0) (ne_eqb rom b ne)

data_size : Option Block → ℕ
data_size None = 0
data_size (Some block) = length block.data

module _ (net : Net) (w : Wiring) (wired : IsWired net w) where
  abbrev pub wires_of : (ℕ → ℕ → Bool) → List ℕ → Histories
  wires_of v = λ path name bit c. v (wired.at path name bit) c

  end_stands : (path : List ℕ) (c : Entry) (e : End) → chip_at chips computer path ≡ Some c → end_of Blocks c ≡ Some e → EndStands net wired.low (wired.block path) e (wired.at path)
  end_stands path c e found is =
      subst (λ o. ChipWired wired.low wired.high chips c o (wired.at path) (λ i. wired.at (path ++ i ∷ [])) (λ x. EndStands net wired.low (wired.block path) x (wired.at path))) is
      (wired.numbering.wired path c found)

  rom_there : slice_get net.blocks w.rom ≡ Some (rom_block wired.low (wired.at rom_path))
  rom_there = ap (slice_get net.blocks) wired.blocks.rom ∙ (end_stands rom_path (shipped_entry rom_tree) ends.Rom rom_stands.0 rom_stands.1).there

  pub memory_there : (path : List ℕ) (c : Entry) (bits : ℕ) → chip_at chips computer path ≡ Some c → end_of Blocks c ≡ Some (ends.Block bits)
      → BlockStands net (wired.block path) (memory_block bits (wired.at path)) (wired.at path)
  memory_there path c bits found is = end_stands path c (ends.Block bits) found is

  pub not_rom : (path : List ℕ) (c : Entry) (bits : ℕ) → chip_at chips computer path ≡ Some c → end_of Blocks c ≡ Some (ends.Block bits) → w.rom ≢ wired.block path
  unfolding data_size
  not_rom path c bits found is e =
      let same = ap data_size (sym rom_there ∙ ap (slice_get net.blocks) e ∙ (memory_there path c bits found is).there) in
      let sixteen = row_length (wired.at path (codes "in")) 16 0 in
      let no : 0 ≡ 16 = same ∙ sixteen in
      omega (arith, no)

  abbrev pub main_block : BlockStands net (wired.block main_path) (memory_block 14 (wired.at main_path)) (wired.at main_path)
  main_block = memory_there main_path (shipped_entry ram16k_tree) 14 main_stands.0 main_stands.1

  abbrev pub screen_block : BlockStands net (wired.block screen_path) (memory_block 13 (wired.at screen_path)) (wired.at screen_path)
  screen_block = memory_there screen_path (shipped_entry screen_tree) 13 screen_stands.0 screen_stands.1

  pub main_not_rom : w.rom ≢ w.main
  main_not_rom e = not_rom main_path (shipped_entry ram16k_tree) 14 main_stands.0 main_stands.1 (e ∙ wired.blocks.main)

  pub screen_not_rom : w.rom ≢ w.screen
  screen_not_rom e = not_rom screen_path (shipped_entry screen_tree) 13 screen_stands.0 screen_stands.1 (e ∙ wired.blocks.screen)

  -- ---- what can be set and read

  key_wide : length w.keyboard ≡ 16
  key_wide = wide_row 16 (wired.at keyboard_path (codes "out")) w.keyboard wired.pins.keyboard

  key_node : (k : ℕ) → k < 16 → slice_index w.keyboard k ≡ wired.at keyboard_path (codes "out") k
  key_node k less = node_is 16 (wired.at keyboard_path (codes "out")) w.keyboard k wired.pins.keyboard less

  pub keys_apart : Apart w.keyboard
  keys_apart j k less near e =
      let wide = key_wide in
      wired.own_pins.keys_apart j k less (omega (arith, near, wide)) (sym (key_node j (omega (arith, near, wide, less))) ∙ e ∙ key_node k (omega (arith, near, wide)))

  are_pins : All (λ node. slice_get net.nodes node ≡ Some Pin) w.keyboard
  are_pins k d less =
      let wide = key_wide in
      let near : k < 16 = omega (arith, less, wide) in
      ap (slice_get net.nodes) (sym (get_or_default w.keyboard k 0 d less) ∙ key_node k near)
      ∙ end_stands keyboard_path (shipped_entry keyboard_tree) ends.Keyboard keyboard_stands.0 keyboard_stands.1 k near

  pub rom_room : (n : ℕ) → n ≤ 32768 → MatchOption (slice_get net.blocks w.rom) ⊥ (λ b. 0 + n ≤ b.words)
  rom_room n le = subst (λ o. MatchOption o ⊥ (λ b. 0 + n ≤ b.words)) (sym rom_there) (omega arith)

  pub readable : IsReadable net w
  readable = record {
    keyboard = are_pins;
    keyboard_wide = key_wide;
    apart = keys_apart;
    pc_wide = wide_row 15 (wired.at (0 ∷ []) (codes "pc")) w.pc wired.pins.pc;
    a_wide = wide_row 16 (wired.at (0 ∷ 3 ∷ []) (codes "out")) w.a wired.pins.a;
    nodes = wired.nodes;
    main = λ a less. subst (λ o. MatchOption o ⊥ (λ b. a < b.words)) (sym (ap (slice_get net.blocks) wired.blocks.main ∙ main_block.there)) less;
    screen = λ a less. subst (λ o. MatchOption o ⊥ (λ b. a < b.words)) (sym (ap (slice_get net.blocks) wired.blocks.screen ∙ screen_block.there)) less;
  }

  -- ---- behaviours

  module _ (image : List ℕ) (small : (a : ℕ) → slice_index image a < 65536) where
    module _ (keys : ℕ → ℕ) (n : ℕ) (words : (c : ℕ) → c < n → IsKey (keys c)) (h : Inputs) (comes : ComesIn w image keys n h) where
      key_is : (c : ℕ) → c < n → number 16 (λ k. h.pin c (wired.at keyboard_path (codes "out") k)) ≡ keys c
      key_is c less =
          let wide = key_wide in
          number_same 16 (λ k. h.pin c (wired.at keyboard_path (codes "out") k)) (has_bit (keys c))
          (λ k near. ap (h.pin c) (sym (key_node k near)) ∙ (comes.pins c less).bits k (omega (arith, near, wide)))
          ∙ number_word (keys c) (words c less)

      hears_end : (path : List ℕ) (c : Entry) (e : End) → chip_at chips computer path ≡ Some c → end_of Blocks c ≡ Some e → EndHears (outside image keys) h n (wired.block path) e (wired.at path)
      hears_end path c ends.Nand found is = tt
      hears_end path c ends.Dff found is = tt
      hears_end path c ends.Keyboard found is = λ d less.
          subst (λ p. number 16 (λ k. h.pin d (wired.at p (codes "out") k)) ≡ keys d) (sym (keyboard_is path c found is)) (key_is d less)
      hears_end path c ends.Rom found is = λ a less.
          (comes.loaded (wired.block path) a ∙ loaded_here image w.rom (wired.block path) a (ap wired.block (rom_is path c found is) ∙ sym wired.blocks.rom), small a)
      hears_end path c (ends.Block bits) found is = λ a.
          comes.loaded (wired.block path) a ∙ loaded_elsewhere image w.rom (wired.block path) a (not_rom path c bits found is)

      pub is_computer : (v : ℕ → ℕ → Bool) → AreValues net h n v → IsComputer image keys n (wires_of v)
      is_computer v are = record {
        behaves = behaviour (outside image keys) net h n v wired.low wired.high chips computer wired.block wired.at wired.numbering (λ path c e found is. hears_end path c e found is) are;
        no_reset = λ c less.
            are c (wired.at [] (codes "reset") 0) Pin less wired.own_pins.reset
            ∙ (comes.pins c less).others (wired.at [] (codes "reset") 0)
            (λ j near e. let wide = key_wide in let close : j < 16 = omega (arith, near, wide) in wired.own_pins.reset_apart j close (sym (key_node j close) ∙ e));
      }

    -- a history with these keys, and its values
    pub behaves : AreOrdered net.nodes net.blocks → (keys : ℕ → ℕ) → ((c : ℕ) → IsKey (keys c)) → (m : ℕ) → (wires : List ℕ → Histories) × IsComputer image keys m wires
    behaves ordered keys words m =
        let v = values_of net ordered (key_inputs w image keys) in
        (wires_of v.0, is_computer keys m (λ c less. words c) (key_inputs w image keys) (comes_in w image keys m keys_apart) v.0 (v.1 m))
