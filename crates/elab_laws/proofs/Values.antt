-- Two numberings of one chip: from equal inputs and words their nodes get equal values, in one cycle after another.
use Rattle.std.proofs.Common.{◌≡◌, ℕ, zero, suc, ◌+◌, ◌-◌, ◌<◌, ◌≤◌, ◌⊎◌, inl, inr, Bool, true, false, not, ◌&&◌, nat_eq, nat_lt, get_or, List, [], ◌∷◌, length, Option, Some, None, refl, sym, ap, ap₂, subst, ◌∙◌, arith, eq-eqb, ne_eqb}
use Rattle.std.specs.Prelude.{slice_get, slice_index, codes, MatchOption, nat_le, if◌then◌else◌}
use Rattle.std.specs.List.{All}
use Rattle.std.proofs.lemmas.Bool.{cases_eq}
use Rattle.std.proofs.lemmas.Grind.{get_or_default_zero}
use Rattle.word16.specs.Words.{has_bit}
use Rattle.hdl_tree.specs.declared.library.Entry.{Entry}
use Rattle.hdl_tree.specs.declared.ends.End.{End}
use Rattle.hdl_tree.specs.declared.ends.End.TheVariants as ends
use Rattle.hdl_tree.specs.Memory.{before, word_written}
use Rattle.hdl_tree.specs.Chips.{Chips, end_of, find_chip}
use Rattle.hdl_tree.specs.Behaviour.{Wires, chip_at}
use Rattle.hdl_check.specs.Locations.{IsFaultless}
use Rattle.name_table.specs.Names.{find_value}
use Rattle.hdl_check.specs.Tables.{BitOf}
use Rattle.netlist.specs.declared.node.Node.{Node}
use Rattle.netlist.specs.declared.node.Node.TheVariants.{Pin, Nand, Flip, Word, Zero}
use Rattle.netlist.specs.declared.node.Block.{Block}
use Rattle.netlist.specs.Order.{AreOrdered, IsReadable}
use Rattle.netlist.specs.Value.{spelled_number, shown_value, written_in}
use Rattle.gate_sim.specs.Calls.{Call, cycle_of, is_pin, is_ticked, pins_of, at_tick}
use Rattle.gate_sim.specs.Calls.Call.{Load, Set, Eval, Tick, Tock}
use Rattle.gate_sim.specs.Values.{AreValues, value_after, words_of, written_before}
use Rattle.gate_sim.proofs.Exist.{tick_cycle}
use Rattle.gate_sim.proofs.Inputs.{pins_set, unset}
use Rattle.gate_sim.proofs.Past.{cycle_grows}
use Rattle.hdl_nodes.specs.Numbering.{nodes_of, memory_block, rom_block, EndStands}
use Rattle.hdl_nodes.proofs.Numbers.{number_same, at_row, row_length}
use Rattle.hdl_nodes.proofs.Ends.{spelled_is}
use Rattle.hdl_flatten.specs.Ends.{end_inputs, EndsHavePins}
use Rattle.hdl_flatten.specs.Flat.{block_at, IsEndBit, IsEndBlock}
use Rattle.hdl_flatten.specs.Trees.{all_bits, end_nodes}
use Rattle.hdl_elab.specs.declared.put.Elab.{Elab}
use Rattle.hdl_elab.specs.Elaborated.{IsElaborated}
use Rattle.elab_laws.specs.Same.{SameCalls, none, load, set, eval, tick, tock}
use Rattle.elab_laws.proofs.Drivers.{Driver, Low, High, Input, Output, HasOutput, IsDriver, IsDriven, StandsIn, node_of, input_driven, stands_at}
use Rattle.elab_laws.proofs.Bits.{OneBlock, OneInput, end_bit, one_block, one_input}

-- ---- small facts

-- two tests of numbers that say the same
eq_same : (a b a' b' : ℕ) → (a ≡ b → a' ≡ b') → (a' ≡ b' → a ≡ b) → nat_eq a b ≡ nat_eq a' b'
eq_same a b a' b' go back =
    elim (cases_eq a b) [
      | inl e ↦ eq-eqb a b e ∙ sym (eq-eqb a' b' (go e))
      | inr ne ↦ ne_eqb a b ne ∙ sym (ne_eqb a' b' (λ e. ne (back e)))
    ]

before_agree : (c : ℕ) (f g : ℕ → Bool) → ((d : ℕ) → d < c → f d ≡ g d) → before false c f ≡ before false c g
before_agree zero f g h = refl
before_agree (suc c) f g h = h c (omega arith)

got : (xs : List ℕ) (k : ℕ) → k < length xs → get_or xs k 0 ≡ slice_index xs k
got xs k lt = get_or_default_zero xs k 0 lt

-- ---- blocks that are alike: where their nodes have equal values they do the same

pub record Alike (Same : (ℕ → Bool) → (ℕ → Bool) → Type 0) (a b : Block) : Type 0 where
  pub words : a.words ≡ b.words
  pub address : (row row' : ℕ → Bool) → Same row row' → spelled_number row a.address ≡ spelled_number row' b.address
  pub word : (row row' : ℕ → Bool) → Same row row' → spelled_number row a.data ≡ spelled_number row' b.data
  pub load : (row row' : ℕ → Bool) → Same row row' → row a.load ≡ row' b.load

written_alike : (Same : (ℕ → Bool) → (ℕ → Bool) → Type 0) (x y : Block) → Alike Same x y → (row row' : ℕ → Bool) → Same row row' → (a old old' : ℕ) → old ≡ old' → written_in (Some x) row a old ≡ written_in (Some y) row' a old'
written_alike Same x y alike row row' same a old old' e =
    let l = alike.load row row' same in
    let n = alike.address row row' same in
    let w = alike.word row row' same in
    let size = alike.words in
    ap (λ (t : Bool). word_written (t && nat_lt (spelled_number row x.address) x.words) (spelled_number row x.address) (spelled_number row x.data) a old) l
    ∙ ap₂ (λ (k m : ℕ). word_written (row' y.load && nat_lt k m) k (spelled_number row x.data) a old) n size
    ∙ ap₂ (λ (k m : ℕ). word_written (row' y.load && nat_lt (spelled_number row' y.address) y.words) (spelled_number row' y.address) k a m) w e

shown_alike : (x y : Block) → x.words ≡ y.words → (row row' : ℕ → Bool) → spelled_number row x.address ≡ spelled_number row' y.address → (w w' : ℕ → ℕ) → ((a : ℕ) → w a ≡ w' a) → shown_value (Some x) w row ≡ shown_value (Some y) w' row'
shown_alike x y size row row' n w w' same =
    ap₂ (λ (k m : ℕ). if nat_lt k m then w k else 0) n size
    ∙ ap (λ (k : ℕ). if nat_lt (spelled_number row' y.address) y.words then k else 0) (same (spelled_number row' y.address))

module _ (chips : Chips) (top_name : List ℕ) (top : Entry) (pins : EndsHavePins chips) (found : find_chip chips top_name ≡ Some top) (faultless : IsFaultless chips (top.name ∷ []) top) (e e' : Elab) (is : IsElaborated chips top e) (is' : IsElaborated chips top e') where
  abbrev pub n : Driver → ℕ
  n d = node_of is.low is.high is.at d

  abbrev pub n' : Driver → ℕ
  n' d = node_of is'.low is'.high is'.at d

  -- rows of values that agree at what drives bits
  abbrev pub SameRow : (ℕ → Bool) → (ℕ → Bool) → Type 0
  SameRow row row' = (d : Driver) → IsDriver chips top d → row (n d) ≡ row' (n' d)

  pub bit_same : (row row' : ℕ → Bool) → SameRow row row' → (path name : List ℕ) (bit : ℕ) → IsDriven chips top path name bit → row (is.at path name bit) ≡ row' (is'.at path name bit)
  bit_same row row' same path name bit g =
      ap row (g.same e.net is.low is.high is.block is.at is.numbering) ∙ same g.d g.is ∙ sym (ap row' (g.same e'.net is'.low is'.high is'.block is'.at is'.numbering))

  stands : (path : List ℕ) (chip : Entry) (k : End) → chip_at chips top path ≡ Some chip → end_of chips.memories chip ≡ Some k → EndStands e.net is.low (is.block path) k (is.at path)
  stands path chip k there end_is = stands_at chips top_name top pins found faultless e.net is.low is.high is.block is.at is.numbering path chip k there end_is

  stands' : (path : List ℕ) (chip : Entry) (k : End) → chip_at chips top path ≡ Some chip → end_of chips.memories chip ≡ Some k → EndStands e'.net is'.low (is'.block path) k (is'.at path)
  stands' path chip k there end_is = stands_at chips top_name top pins found faultless e'.net is'.low is'.high is'.block is'.at is'.numbering path chip k there end_is

  -- ---- the input bits of ends

  -- an end at a path
  pub record EndAt (path : List ℕ) (k : End) : Type 0 where
    pub name : List ℕ
    pub chip : Entry
    pub its : find_chip chips name ≡ Some chip
    pub there : chip_at chips top path ≡ Some chip
    pub end_is : end_of chips.memories chip ≡ Some k

  pub in_driven : (path : List ℕ) (k : End) → EndAt path k → (name : List ℕ) (width : ℕ) → find_value name (end_inputs k) ≡ Some width → (bit : ℕ) → bit < width → IsDriven chips top path name bit
  in_driven path k x name width wide bit lt = input_driven chips top_name top pins found faultless path x.chip x.there name bit (end_bit x.chip k name width bit (pins x.name x.chip k x.its x.end_is) wide lt)

  spelled_same : (row row' : ℕ → Bool) (path : List ℕ) (k : End) → ((name : List ℕ) (width : ℕ) → find_value name (end_inputs k) ≡ Some width → (bit : ℕ) → bit < width → row (is.at path name bit) ≡ row' (is'.at path name bit)) → (name : List ℕ) (width : ℕ) → find_value name (end_inputs k) ≡ Some width → spelled_number row (nodes_of width (is.at path name)) ≡ spelled_number row' (nodes_of width (is'.at path name))
  spelled_same row row' path k h name width wide =
      spelled_is row width (is.at path name) ∙ number_same width (λ i. row (is.at path name i)) (λ i. row' (is'.at path name i)) (λ i lt. h name width wide i lt) ∙ sym (spelled_is row' width (is'.at path name))

  pub in_same : (row row' : ℕ → Bool) → SameRow row row' → (path : List ℕ) (k : End) → EndAt path k → (name : List ℕ) (width : ℕ) → find_value name (end_inputs k) ≡ Some width → (bit : ℕ) → bit < width → row (is.at path name bit) ≡ row' (is'.at path name bit)
  in_same row row' same path k x name width wide bit lt = bit_same row row' same path name bit (in_driven path k x name width wide bit lt)

  -- ---- the blocks of ends

  -- a block of an end, in both
  pub record BothBlocks (b b' : ℕ) : Type 0 where
    pub block : Block
    pub block' : Block
    pub there : slice_get e.net.blocks b ≡ Some block
    pub there' : slice_get e'.net.blocks b' ≡ Some block'
    pub alike : Alike SameRow block block'

  rom_both : (path : List ℕ) → EndAt path ends.Rom → BothBlocks (is.block path) (is'.block path)
  rom_both path x = record {
    block = rom_block is.low (is.at path);
    block' = rom_block is'.low (is'.at path);
    there = (stands path x.chip ends.Rom x.there x.end_is).there;
    there' = (stands' path x.chip ends.Rom x.there x.end_is).there;
    alike = record {
      words = refl;
      address = λ row row' same. spelled_same row row' path ends.Rom (in_same row row' same path ends.Rom x) (codes "address") 15 refl;
      word = λ row row' same. refl;
      load = λ row row' same. same Low tt;
    };
  }

  memory_both : (path : List ℕ) (bits : ℕ) → EndAt path (ends.Block bits) → BothBlocks (is.block path) (is'.block path)
  memory_both path bits x = record {
    block = memory_block bits (is.at path);
    block' = memory_block bits (is'.at path);
    there = (stands path x.chip (ends.Block bits) x.there x.end_is).there;
    there' = (stands' path x.chip (ends.Block bits) x.there x.end_is).there;
    alike = record {
      words = refl;
      address = λ row row' same. spelled_same row row' path (ends.Block bits) (in_same row row' same path (ends.Block bits) x) (codes "address") bits refl;
      word = λ row row' same. spelled_same row row' path (ends.Block bits) (in_same row row' same path (ends.Block bits) x) (codes "in") 16 refl;
      load = λ row row' same. in_same row row' same path (ends.Block bits) x (codes "load") 1 refl 0 (omega arith);
    };
  }

  -- two blocks of one end, and the end
  abbrev pub Blocks : ℕ → ℕ → Type 0
  Blocks b b' = OneBlock chips top_name top pins found faultless e e' is is' b b'

  both_by : (path : List ℕ) (name : List ℕ) (chip : Entry) (o : Option End) → find_chip chips name ≡ Some chip → chip_at chips top path ≡ Some chip → end_of chips.memories chip ≡ o → (b b' : ℕ) → block_at o (is.block path) ≡ Some b → block_at o (is'.block path) ≡ Some b' → BothBlocks b b'
  both_by path name chip None its there end_is b b' f f' = absurd cc
  both_by path name chip (Some ends.Nand) its there end_is b b' f f' = absurd cc
  both_by path name chip (Some ends.Dff) its there end_is b b' f f' = absurd cc
  both_by path name chip (Some ends.Keyboard) its there end_is b b' f f' = absurd cc
  both_by path name chip (Some ends.Rom) its there end_is b b' f f' =
      let g : is.block path ≡ b = cc in
      let g' : is'.block path ≡ b' = cc in
      subst (λ (x : ℕ). BothBlocks x b') g (subst (λ (x : ℕ). BothBlocks (is.block path) x) g' (rom_both path (record { name = name; chip = chip; its = its; there = there; end_is = end_is })))
  both_by path name chip (Some (ends.Block bits)) its there end_is b b' f f' =
      let g : is.block path ≡ b = cc in
      let g' : is'.block path ≡ b' = cc in
      subst (λ (x : ℕ). BothBlocks x b') g (subst (λ (x : ℕ). BothBlocks (is.block path) x) g' (memory_both path bits (record { name = name; chip = chip; its = its; there = there; end_is = end_is })))

  pub both_blocks : (b b' : ℕ) → Blocks b b' → BothBlocks b b'
  both_blocks b b' x = both_by x.path x.name x.chip (end_of chips.memories x.chip) x.by_name x.there refl b b' x.its x.its'

  -- a block of one is that of the same end where it is so in the other
  part_of_block : (b b' c c' : ℕ) → (x : Blocks b b') (y : Blocks c c') → (p : x.path ≡ y.path) → b' ≡ c'
  part_of_block b b' c c' x y p =
      let one : Some x.chip ≡ Some y.chip = sym x.there ∙ ap (chip_at chips top) p ∙ y.there in
      let same : x.chip ≡ y.chip = cc in
      let two : Some b' ≡ Some c' = sym x.its' ∙ ap₂ (λ (z : Entry) (q : List ℕ). block_at (end_of chips.memories z) (is'.block q)) same p ∙ y.its' in
      cc

  part_of_block' : (b b' c c' : ℕ) → (x : Blocks b b') (y : Blocks c c') → (p : x.path ≡ y.path) → b ≡ c
  part_of_block' b b' c c' x y p =
      let one : Some x.chip ≡ Some y.chip = sym x.there ∙ ap (chip_at chips top) p ∙ y.there in
      let same : x.chip ≡ y.chip = cc in
      let two : Some b ≡ Some c = sym x.its ∙ ap₂ (λ (z : Entry) (q : List ℕ). block_at (end_of chips.memories z) (is.block q)) same p ∙ y.its in
      cc

  pub same_block : (b b' c c' : ℕ) → Blocks b b' → Blocks c c' → nat_eq b c ≡ nat_eq b' c'
  same_block b b' c c' x y =
      eq_same b c b' c'
      (λ q.
      let u : IsEndBlock chips top is.block c = record { path = x.path; chip = x.chip; there = x.there; its = x.its ∙ ap (λ (k : ℕ). Some k) q } in
      let w : IsEndBlock chips top is.block c = record { path = y.path; chip = y.chip; there = y.there; its = y.its } in
      part_of_block b b' c c' x y (is.blocks_apart c u w))
      (λ q.
      let u : IsEndBlock chips top is'.block c' = record { path = x.path; chip = x.chip; there = x.there; its = x.its' ∙ ap (λ (k : ℕ). Some k) q } in
      let w : IsEndBlock chips top is'.block c' = record { path = y.path; chip = y.chip; there = y.there; its = y.its' } in
      part_of_block' b b' c c' x y (is'.blocks_apart c' u w))

  -- ---- the words in blocks after calls

  abbrev pub Calls : List Call → List Call → Type 0
  Calls calls calls' = SameCalls top e e' calls calls'

  pub ticks : (calls calls' : List Call) → Calls calls calls' → is_ticked calls ≡ is_ticked calls'
  ticks calls calls' none = refl
  ticks calls calls' (load b rest) = ticks _ _ rest
  ticks calls calls' (set lt p rest) = ticks _ _ rest
  ticks calls calls' (eval rest) = ticks _ _ rest
  ticks calls calls' (tick rest) = refl
  ticks calls calls' (tock rest) = refl

  pub cycles : (calls calls' : List Call) → Calls calls calls' → cycle_of calls ≡ cycle_of calls'
  cycles calls calls' none = refl
  cycles calls calls' (load b rest) = cycles _ _ rest
  cycles calls calls' (set lt p rest) = cycles _ _ rest
  cycles calls calls' (eval rest) = cycles _ _ rest
  cycles calls calls' (tick rest) = cycles _ _ rest
  cycles calls calls' (tock rest) = ap₂ (λ (t : Bool) (k : ℕ). if t then suc k else k) (ticks _ _ rest) (cycles _ _ rest)

  -- the calls before the last tick of a cycle
  pub tick_calls : (c : ℕ) (calls calls' : List Call) → Calls calls calls' → Calls (at_tick calls c) (at_tick calls' c)
  tick_calls c calls calls' none = none
  tick_calls c calls calls' (load b rest) = tick_calls c _ _ rest
  tick_calls c calls calls' (set lt p rest) = tick_calls c _ _ rest
  tick_calls c calls calls' (eval rest) = tick_calls c _ _ rest
  tick_calls c calls calls' (tick {calls = cs} {calls' = cs'} rest) =
      let same = ap (nat_eq c) (cycles cs cs' rest) in
      subst (λ (t : Bool). Calls (if nat_eq c (cycle_of cs) then cs else at_tick cs c) (if t then cs' else at_tick cs' c)) same
      (elim (nat_eq c (cycle_of cs)) as (λ t. Calls (if t then cs else at_tick cs c) (if t then cs' else at_tick cs' c)) [ true ↦ rest | false ↦ tick_calls c cs cs' rest ])
  tick_calls c calls calls' (tock rest) = tick_calls c _ _ rest

  module _ (v v' : ℕ → ℕ → Bool) (c : ℕ) (past : (d : ℕ) → d < c → SameRow (λ i. v i d) (λ i. v' i d)) where
    before_same : (m b b' a old old' : ℕ) → m ≤ c → BothBlocks b b' → old ≡ old' → written_before e.net.blocks v m b a old ≡ written_before e'.net.blocks v' m b' a old'
    before_same zero b b' a old old' le x same = same
    before_same (suc m) b b' a old old' le x same =
        ap (λ (o : Option Block). written_in o (λ i. v i m) a old) x.there
        ∙ written_alike SameRow x.block x.block' x.alike (λ i. v i m) (λ i. v' i m) (past m (omega arith)) a old old' same
        ∙ sym (ap (λ (o : Option Block). written_in o (λ i. v' i m) a old') x.there')

    pub words_same : (calls calls' : List Call) → Calls calls calls' → cycle_of calls ≤ c → (b b' : ℕ) → Blocks b b' → (a : ℕ) → words_of e.net.blocks v calls b a ≡ words_of e'.net.blocks v' calls' b' a
    words_same calls calls' none le b b' x a = refl
    words_same calls calls' (load {block = l} {block' = l'} {from = from} {words = words} {calls = cs} {calls' = cs'} s rest) le b b' x a =
        let same = same_block l l' b b' (one_block chips top_name top pins found faultless e e' is is' l l' s) x in
        let old = words_same cs cs' rest le b b' x a in
        ap₂ (λ (t : Bool) (k : ℕ). if t && (nat_le from a && nat_lt a (from + length words)) then slice_index words (a - from) else k) same old
    words_same calls calls' (set {calls = cs} {calls' = cs'} lt p rest) le b b' x a = words_same cs cs' rest le b b' x a
    words_same calls calls' (eval {calls = cs} {calls' = cs'} rest) le b b' x a = words_same cs cs' rest le b b' x a
    words_same calls calls' (tick {calls = cs} {calls' = cs'} rest) le b b' x a = words_same cs cs' rest le b b' x a
    words_same calls calls' (tock {calls = cs} {calls' = cs'} rest) le b b' x a =
        let grows = cycle_grows cs in
        let same = cycles (Tock ∷ cs) (Tock ∷ cs') (tock rest) in
        before_same (cycle_of (Tock ∷ cs)) b b' a (words_of e.net.blocks v cs b a) (words_of e'.net.blocks v' cs' b' a) le (both_blocks b b' x) (words_same cs cs' rest (omega arith) b b' x a)
        ∙ ap (λ (k : ℕ). written_before e'.net.blocks v' k b' a (words_of e'.net.blocks v' cs' b' a)) same

  -- ---- the pins after calls

  -- two bits of inputs with one node are one bit
  input_same : (name : List ℕ) (bit : ℕ) (s : StandsIn (all_bits top.chip.inputs) name bit) (other : List ℕ) (k : ℕ) (t : StandsIn (all_bits top.chip.inputs) other k) → s.k ≡ t.k → (name ≡ other) × (bit ≡ k)
  input_same name bit s other k t same =
      let one : Some s.at ≡ Some t.at = sym s.there ∙ ap (slice_get (all_bits top.chip.inputs)) same ∙ t.there in
      let b : s.at ≡ t.at = cc in
      (s.name_is ∙ ap (λ (x : BitOf). x.name) b ∙ sym t.name_is, s.bit_is ∙ ap (λ (x : BitOf). x.bit) b ∙ sym t.bit_is)

  at_of : (at : Wires ℕ) (name : List ℕ) (bit : ℕ) (s : StandsIn (all_bits top.chip.inputs) name bit) → at name bit ≡ at s.at.name s.at.bit
  at_of at name bit s = ap (λ (x : List ℕ). at x bit) s.name_is ∙ ap (at s.at.name) s.bit_is

  abbrev Ins : ℕ → ℕ → Type 0
  Ins k k' = OneInput chips top_name top pins found faultless e e' is is' k k'

  -- ends and input bits, which can be pins
  abbrev pub CanBePin : Driver → Type 0
  CanBePin Low = ⊥
  CanBePin High = ⊥
  CanBePin (Input name bit) = Unit {0}
  CanBePin (Output path bit) = Unit {0}

  set_same : (k k' : ℕ) → Ins k k' → (d : Driver) → IsDriver chips top d → CanBePin d → nat_eq k (n d) ≡ nat_eq k' (n' d)
  set_same k k' x Low h can = absurd can
  set_same k k' x High h can = absurd can
  set_same k k' x (Input name bit) h can =
      let s = x.in_it in
      eq_same k (is.at [] name bit) k' (is'.at [] name bit)
      (λ q.
      let p = input_same x.name x.bit s name bit h (is.apart s.k h.k s.at h.at s.there h.there (sym (at_of (is.at []) x.name x.bit s) ∙ x.at ∙ q ∙ at_of (is.at []) name bit h)) in
      sym x.at' ∙ ap₂ (λ (a : List ℕ) (b : ℕ). is'.at [] a b) p.0 p.1)
      (λ q.
      let p = input_same x.name x.bit s name bit h (is'.apart s.k h.k s.at h.at s.there h.there (sym (at_of (is'.at []) x.name x.bit s) ∙ x.at' ∙ q ∙ at_of (is'.at []) name bit h)) in
      sym x.at ∙ ap₂ (λ (a : List ℕ) (b : ℕ). is.at [] a b) p.0 p.1)
  set_same k k' x (Output path bit) h can =
      let s = x.in_it in
      eq_same k (is.at path (codes "out") bit) k' (is'.at path (codes "out") bit)
      (λ q.
      let end_bit : IsEndBit chips top is.at (is.at [] s.at.name s.at.bit) = record { path = path; chip = h.chip; e = h.e; bit = bit; there = h.there; is_end = h.is; below = h.below; node = sym q ∙ sym x.at ∙ at_of (is.at []) x.name x.bit s } in
      absurd (is.outside s.k s.at s.there end_bit))
      (λ q.
      let end_bit : IsEndBit chips top is'.at (is'.at [] s.at.name s.at.bit) = record { path = path; chip = h.chip; e = h.e; bit = bit; there = h.there; is_end = h.is; below = h.below; node = sym q ∙ sym x.at' ∙ at_of (is'.at []) x.name x.bit s } in
      absurd (is'.outside s.k s.at s.there end_bit))

  -- the node of an input bit is a pin
  input_pin : (k k' : ℕ) → Ins k k' → (slice_get e.net.nodes k ≡ Some Pin) × (slice_get e'.net.nodes k' ≡ Some Pin)
  input_pin k k' x =
      let s = x.in_it in (
        subst (λ (m : ℕ). slice_get e.net.nodes m ≡ Some Pin) (sym (at_of (is.at []) x.name x.bit s) ∙ x.at) (is.inputs s.k s.at s.there),
        subst (λ (m : ℕ). slice_get e'.net.nodes m ≡ Some Pin) (sym (at_of (is'.at []) x.name x.bit s) ∙ x.at') (is'.inputs s.k s.at s.there),
      )

  pub pins_same : (calls calls' : List Call) → Calls calls calls' → (d : Driver) → IsDriver chips top d → CanBePin d → pins_of e.net.nodes calls (n d) ≡ pins_of e'.net.nodes calls' (n' d)
  pins_same calls calls' none d h can = unset (is_pin (slice_get e.net.nodes (n d))) ∙ sym (unset (is_pin (slice_get e'.net.nodes (n' d))))
  pins_same calls calls' (load {calls = cs} {calls' = cs'} s rest) d h can = pins_same cs cs' rest d h can
  pins_same calls calls' (set {k = k} {node = m} {node' = m'} {bit = bit} {calls = cs} {calls' = cs'} lt p rest) d h can =
      let x = one_input chips top_name top pins found faultless e e' is is' k m m' lt p in
      let pin = input_pin m m' x in
      pins_set e.net.nodes cs m bit pin.0 (n d)
      ∙ ap₂ (λ (t u : Bool). if t then bit else u) (set_same m m' x d h can) (pins_same cs cs' rest d h can)
      ∙ sym (pins_set e'.net.nodes cs' m' bit pin.1 (n' d))
  pins_same calls calls' (eval {calls = cs} {calls' = cs'} rest) d h can = pins_same cs cs' rest d h can
  pins_same calls calls' (tick {calls = cs} {calls' = cs'} rest) d h can = pins_same cs cs' rest d h can
  pins_same calls calls' (tock {calls = cs} {calls' = cs'} rest) d h can = pins_same cs cs' rest d h can

  -- ---- one cycle

  module _ (ordered : AreOrdered e.net.nodes e.net.blocks) (v v' : ℕ → ℕ → Bool) (c : ℕ) (past : (d : ℕ) → d < c → SameRow (λ i. v i d) (λ i. v' i d)) (calls calls' : List Call) (same : Calls calls calls') (early : cycle_of calls ≤ c)
      (row : (k : ℕ) (node : Node) → slice_get e.net.nodes k ≡ Some node → v k c ≡ value_after e.net calls v k c node) (row' : (k : ℕ) (node : Node) → slice_get e'.net.nodes k ≡ Some node → v' k c ≡ value_after e'.net calls' v' k c node) where
    abbrev Agree : Driver → Type 0
    Agree d = v (n d) c ≡ v' (n' d) c

    -- all that stand before a node agree
    abbrev Before : ℕ → Type 0
    Before k = (d : Driver) → IsDriver chips top d → n d < k → Agree d

    low_same : v is.low c ≡ v' is'.low c
    low_same = row is.low Zero is.numbering.low_stands ∙ sym (row' is'.low Zero is'.numbering.low_stands)

    high_same : v is.high c ≡ v' is'.high c
    high_same = row is.high (Nand is.low is.low) is.numbering.high_stands ∙ ap (λ (t : Bool). not (t && t)) low_same ∙ sym (row' is'.high (Nand is'.low is'.low) is'.numbering.high_stands)

    input_now : (name : List ℕ) (bit : ℕ) → StandsIn (all_bits top.chip.inputs) name bit → Agree (Input name bit)
    input_now name bit s =
        row (is.at [] name bit) Pin (subst (λ (k : ℕ). slice_get e.net.nodes k ≡ Some Pin) (sym (at_of (is.at []) name bit s)) (is.inputs s.k s.at s.there))
        ∙ pins_same calls calls' same (Input name bit) s tt
        ∙ sym (row' (is'.at [] name bit) Pin (subst (λ (k : ℕ). slice_get e'.net.nodes k ≡ Some Pin) (sym (at_of (is'.at []) name bit s)) (is'.inputs s.k s.at s.there)))

    -- an input bit of an end that reads nodes before
    in_now : (path : List ℕ) (k : End) → EndAt path k → (name : List ℕ) (width : ℕ) → find_value name (end_inputs k) ≡ Some width → (bit : ℕ) → bit < width → (m : ℕ) → Before m → is.at path name bit < m → v (is.at path name bit) c ≡ v' (is'.at path name bit) c
    in_now path k x name width wide bit lt m go less =
        let g = in_driven path k x name width wide bit lt in
        let at = g.same e.net is.low is.high is.block is.at is.numbering in
        let at' = g.same e'.net is'.low is'.high is'.block is'.at is'.numbering in
        ap (λ (i : ℕ). v i c) at ∙ go g.d g.is (subst (λ (i : ℕ). i < m) at less) ∙ sym (ap (λ (i : ℕ). v' i c) at')

    nand_now : (path : List ℕ) → EndAt path ends.Nand → Before (is.at path (codes "out") 0) → Agree (Output path 0)
    nand_now path x go =
        let s = stands path x.chip ends.Nand x.there x.end_is in
        let s' = stands' path x.chip ends.Nand x.there x.end_is in
        let fit = ordered.fit (is.at path (codes "out") 0) (Nand (is.at path (codes "a") 0) (is.at path (codes "b") 0)) s in
        let a = in_now path ends.Nand x (codes "a") 1 refl 0 (omega arith) (is.at path (codes "out") 0) go fit.0 in
        let b = in_now path ends.Nand x (codes "b") 1 refl 0 (omega arith) (is.at path (codes "out") 0) go fit.1 in
        row (is.at path (codes "out") 0) (Nand (is.at path (codes "a") 0) (is.at path (codes "b") 0)) s
        ∙ ap₂ (λ (t u : Bool). not (t && u)) a b
        ∙ sym (row' (is'.at path (codes "out") 0) (Nand (is'.at path (codes "a") 0) (is'.at path (codes "b") 0)) s')

    flip_now : (path : List ℕ) → EndAt path ends.Dff → Agree (Output path 0)
    flip_now path x =
        row (is.at path (codes "out") 0) (Flip (is.at path (codes "in") 0)) (stands path x.chip ends.Dff x.there x.end_is)
        ∙ before_agree c (v (is.at path (codes "in") 0)) (v' (is'.at path (codes "in") 0)) (λ d lt. in_same (λ i. v i d) (λ i. v' i d) (past d lt) path ends.Dff x (codes "in") 1 refl 0 (omega arith))
        ∙ sym (row' (is'.at path (codes "out") 0) (Flip (is'.at path (codes "in") 0)) (stands' path x.chip ends.Dff x.there x.end_is))

    key_now : (path : List ℕ) (bit : ℕ) → bit < 16 → EndAt path ends.Keyboard → HasOutput chips top path bit → Agree (Output path bit)
    key_now path bit lt x h =
        row (is.at path (codes "out") bit) Pin (stands path x.chip ends.Keyboard x.there x.end_is bit lt)
        ∙ pins_same calls calls' same (Output path bit) h tt
        ∙ sym (row' (is'.at path (codes "out") bit) Pin (stands' path x.chip ends.Keyboard x.there x.end_is bit lt))

    -- a bit of the word of a block, whose address stands before
    word_now : (path : List ℕ) (k : End) (bit bits : ℕ) → EndAt path k → find_value (codes "address") (end_inputs k) ≡ Some bits → (x y : Block) → x.words ≡ y.words → x.address ≡ nodes_of bits (is.at path (codes "address")) → y.address ≡ nodes_of bits (is'.at path (codes "address")) → slice_get e.net.blocks (is.block path) ≡ Some x → slice_get e'.net.blocks (is'.block path) ≡ Some y →
        slice_get e.net.nodes (is.at path (codes "out") bit) ≡ Some (Word (is.block path) bit) → slice_get e'.net.nodes (is'.at path (codes "out") bit) ≡ Some (Word (is'.block path) bit) → Blocks (is.block path) (is'.block path) → Before (is.at path (codes "out") bit) → Agree (Output path bit)
    word_now path k bit bits z wide x y size at at' there there' node node' both go =
        let m = is.at path (codes "out") bit in
        let fit : MatchOption (slice_get e.net.blocks (is.block path)) ⊥ (IsReadable m (length e.net.nodes)) = (ordered.fit m (Word (is.block path) bit) node).1 in
        let readable : IsReadable m (length e.net.nodes) x = subst (λ (o : Option Block). MatchOption o ⊥ (IsReadable m (length e.net.nodes))) there fit in
        let early_bits : All (λ i. i < m) (nodes_of bits (is.at path (codes "address"))) = subst (All (λ (i : ℕ). i < m)) at readable.0 in
        let long = row_length (is.at path (codes "address")) bits 0 in
        let less : (i : ℕ) → i < bits → is.at path (codes "address") i < m =
        λ i lt.
        let inside : i < length (nodes_of bits (is.at path (codes "address"))) = omega (arith, long, lt) in
        let zero_plus : 0 + i ≡ i = omega arith in
        subst (λ (j : ℕ). j < m) (got (nodes_of bits (is.at path (codes "address"))) i inside ∙ at_row (is.at path (codes "address")) bits 0 i lt ∙ ap (is.at path (codes "address")) zero_plus) (early_bits i 0 inside) in
        let address : spelled_number (λ i. v i c) x.address ≡ spelled_number (λ i. v' i c) y.address =
        ap (spelled_number (λ i. v i c)) at
        ∙ spelled_is (λ i. v i c) bits (is.at path (codes "address"))
        ∙ number_same bits (λ i. v (is.at path (codes "address") i) c) (λ i. v' (is'.at path (codes "address") i) c) (λ i lt. in_now path k z (codes "address") bits wide i lt m go (less i lt))
        ∙ sym (spelled_is (λ i. v' i c) bits (is'.at path (codes "address")))
        ∙ sym (ap (spelled_number (λ i. v' i c)) at') in
        row m (Word (is.block path) bit) node
        ∙ ap (λ (o : Option Block). has_bit (shown_value o (words_of e.net.blocks v calls (is.block path)) (λ i. v i c)) bit) there
        ∙ ap (λ (w : ℕ). has_bit w bit) (shown_alike x y size (λ i. v i c) (λ i. v' i c) address (words_of e.net.blocks v calls (is.block path)) (words_of e'.net.blocks v' calls' (is'.block path)) (words_same v v' c past calls calls' same early (is.block path) (is'.block path) both))
        ∙ sym (ap (λ (o : Option Block). has_bit (shown_value o (words_of e'.net.blocks v' calls' (is'.block path)) (λ i. v' i c)) bit) there')
        ∙ sym (row' (is'.at path (codes "out") bit) (Word (is'.block path) bit) node')

    end_block : (path : List ℕ) (k : End) → EndAt path k → block_at (Some k) (is.block path) ≡ Some (is.block path) → block_at (Some k) (is'.block path) ≡ Some (is'.block path) → Blocks (is.block path) (is'.block path)
    end_block path k x f f' = record {
      path = path;
      name = x.name;
      chip = x.chip;
      by_name = x.its;
      there = x.there;
      its = ap (λ (o : Option End). block_at o (is.block path)) x.end_is ∙ f;
      its' = ap (λ (o : Option End). block_at o (is'.block path)) x.end_is ∙ f';
    }

    output_now : (path : List ℕ) (bit : ℕ) (k : End) → EndAt path k → HasOutput chips top path bit → bit < end_nodes (Some k) → Before (is.at path (codes "out") bit) → Agree (Output path bit)
    output_now path zero ends.Nand x h lt go = nand_now path x go
    output_now path (suc bit) ends.Nand x h lt go = absurd (omega arith)
    output_now path zero ends.Dff x h lt go = flip_now path x
    output_now path (suc bit) ends.Dff x h lt go = absurd (omega arith)
    output_now path bit ends.Keyboard x h lt go = key_now path bit lt x h
    output_now path bit ends.Rom x h lt go =
        let s = stands path x.chip ends.Rom x.there x.end_is in
        let s' = stands' path x.chip ends.Rom x.there x.end_is in
        word_now path ends.Rom bit 15 x refl (rom_block is.low (is.at path)) (rom_block is'.low (is'.at path)) refl refl refl s.there s'.there (s.words bit lt) (s'.words bit lt) (end_block path ends.Rom x refl refl) go
    output_now path bit (ends.Block bits) x h lt go =
        let s = stands path x.chip (ends.Block bits) x.there x.end_is in
        let s' = stands' path x.chip (ends.Block bits) x.there x.end_is in
        word_now path (ends.Block bits) bit bits x refl (memory_block bits (is.at path)) (memory_block bits (is'.at path)) refl refl refl s.there s'.there (s.words bit lt) (s'.words bit lt) (end_block path (ends.Block bits) x refl refl) go

    now_by : (d : Driver) → IsDriver chips top d → Before (n d) → Agree d
    now_by Low h go = low_same
    now_by High h go = high_same
    now_by (Input name bit) h go = input_now name bit h
    now_by (Output path bit) h go = output_now path bit h.e (record { name = h.name; chip = h.chip; its = h.found; there = h.there; end_is = h.is }) h h.below go

    below : (m : ℕ) → Before m
    below zero d h lt = absurd (omega arith)
    below (suc m) d h lt = now_by d h (λ d' h' less. below m d' h' (omega arith))

    pub now : SameRow (λ i. v i c) (λ i. v' i c)
    now d h = below (suc (n d)) d h (omega arith)

  -- ---- one cycle after another

  module _ (ordered : AreOrdered e.net.nodes e.net.blocks) (calls calls' : List Call) (same : Calls calls calls') (v v' : ℕ → ℕ → Bool) (are : AreValues e.net calls v) (are' : AreValues e'.net calls' v') where
    cycle_by : (c : ℕ) → (c < cycle_of calls) ⊎ (c ≡ cycle_of calls) → ((d : ℕ) → d < c → SameRow (λ i. v i d) (λ i. v' i d)) → SameRow (λ i. v i c) (λ i. v' i c)
    cycle_by c (inl less) past =
        let both = cycles calls calls' same in
        let less' : c < cycle_of calls' = omega arith in
        now ordered v v' c past (at_tick calls c) (at_tick calls' c) (tick_calls c calls calls' same) (tick_cycle calls c) (λ k node there. are.0 c k node less there) (λ k node there. are'.0 c k node less' there)
    cycle_by c (inr q) past =
        let both = cycles calls calls' same in
        let q' : cycle_of calls' ≡ c = sym both ∙ sym q in
        now ordered v v' c past calls calls' same (omega arith)
        (λ k node there. subst (λ (x : ℕ). v k x ≡ value_after e.net calls v k x node) (sym q) (are.1 k node there))
        (λ k node there. subst (λ (x : ℕ). v' k x ≡ value_after e'.net calls' v' k x node) q' (are'.1 k node there))

    split : (c m : ℕ) → c ≤ m → (c < m) ⊎ (c ≡ m)
    split c m le = grind arith

    upto : (m c : ℕ) → c < m → c ≤ cycle_of calls → SameRow (λ i. v i c) (λ i. v' i c)
    upto zero c lt le = absurd (omega arith)
    upto (suc m) c lt le = cycle_by c (split c (cycle_of calls) le) (λ d less. upto m d (omega arith) (omega arith))

    pub always : (c : ℕ) → c ≤ cycle_of calls → SameRow (λ i. v i c) (λ i. v' i c)
    always c le = upto (suc c) c (omega arith) le
