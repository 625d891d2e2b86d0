-- Each behaviour in which the same comes in has, at what drives bits, the values of the netlist: cycle by cycle, and in each cycle in the order of the
-- nodes.
use Rattle.std.proofs.Common.{◌≡◌, ℕ, zero, suc, ◌+◌, ◌<◌, codes, Bool, true, false, nat_eq, List, [], ◌∷◌, ◌++◌, length, get_or, Option, Some, None, refl, sym, ap, subst, ◌∙◌, arith}
use Rattle.std.specs.Prelude.{MatchOption, slice_get, slice_index}
use Rattle.std.specs.Option.{option_map}
use Rattle.std.specs.List.{All}
use Rattle.std.proofs.lemmas.Grind.{get_or_default_zero}
use Rattle.std.proofs.lemmas.Option.{slice_get-map, slice_get_within}
use Rattle.hdl_tree.specs.declared.tree.Part.{Part}
use Rattle.hdl_tree.specs.declared.library.Entry.{Entry}
use Rattle.hdl_tree.specs.declared.ends.End.{End}
use Rattle.hdl_tree.specs.declared.ends.End.TheVariants as ends
use Rattle.hdl_tree.specs.Chips.{Chips, end_of, find_chip, parts_of_body, parts_unless, pin_width}
use Rattle.hdl_tree.specs.Behaviour.{Histories, Wires, ChipWired, PartsWired, chip_at}
use Rattle.hdl_check.specs.Locations.{IsFaultless}
use Rattle.name_table.specs.Names.{find_value}
use Rattle.hdl_check.specs.Tables.{BitOf, bits_of}
use Rattle.netlist.specs.declared.node.Node.TheVariants as nodes
use Rattle.netlist.specs.declared.node.Node.TheVariants.{Nand, Word}
use Rattle.netlist.specs.declared.node.Block.{Block}
use Rattle.netlist.specs.Order.{AreOrdered, IsReadable}
use Rattle.netlist.specs.Value.{Inputs, AreValues}
use Rattle.hdl_nodes.specs.Numbering.{memory_block, nodes_of, rom_block}
use Rattle.hdl_nodes.proofs.Numbers.{at_row, row_length}
use Rattle.hdl_nodes.proofs.Numbered.{map_parts}
use Rattle.hdl_flatten.specs.declared.flat.PinAt.{PinAt}
use Rattle.hdl_flatten.specs.declared.flat.PartAt.{PartAt}
use Rattle.hdl_flatten.specs.Ends.{EndsHavePins, end_inputs}
use Rattle.hdl_flatten.specs.Trees.{IsTree, PartIn, all_bits, end_nodes}
use Rattle.hdl_flatten.specs.Flat.{nodes_at, pin_at}
use Rattle.hdl_elab.specs.declared.put.Elab.{Elab}
use Rattle.hdl_elab.specs.Elaborated.{IsElaborated}
use Rattle.hdl_elab.proofs.Places.{item_at}
use Rattle.hdl_elab.proofs.Behaves.{bits_long, bit_is, comes}
use Rattle.hdl_elab.proofs.Trees.{stands_left}
use Rattle.hdl_elab.proofs.There.{joined}
use Rattle.elab_laws.proofs.Drivers.{Driver, Low, High, Input, Output, AreWired, HasOutput, IsDriver, IsDriven, StandsIn, fine, input_driven, node_of}
use Rattle.elab_laws.proofs.Bits.{bit_in, end_bit, out_driven, pin_driven}
use Rattle.history_laws.specs.Environment.{Environment, EndActs, BehavesIn}
use Rattle.history_laws.specs.Told.{ComesIn, Shows}
use Rattle.history_laws.specs.Laws.{OnlyLaw}
use Rattle.history_laws.proofs.Acts.{Now, Past, out_same, word_same}
use Rattle.history_laws.proofs.Hears.{AllHear, all_hear, part_stands, stands_in}
use Rattle.history_laws.proofs.Shown.{acts_at, high_is, low_is, part_is, part_node, pin_is, shown, words_at}

-- ---- bits as numbers

abbrev digit : Bool → ℕ
digit true = 1
digit false = 0

digit_back : (b : Bool) → nat_eq (digit b) 1 ≡ b
digit_back true = refl
digit_back false = refl

-- ---- small facts

-- bit k of a pin has its node
node_there : (at : Wires ℕ) (name : List ℕ) (w k : ℕ) → k < w → slice_get (nodes_at at (bits_of name 0 w)) k ≡ Some (at name k)
node_there at name w k lt =
    let long = bits_long name 0 w in
    let b = item_at (bits_of name 0 w) k (omega (arith, long)) in
    let same = bit_is name 0 w k b.item b.there in
    let zero_plus : 0 + k ≡ k = omega arith in
    slice_get-map (λ (x : BitOf). at x.name x.bit) (bits_of name 0 w) k ∙ ap (option_map (λ (x : BitOf). at x.name x.bit)) b.there
    ∙ ap (λ (x : BitOf). Some (at x.name x.bit)) same ∙ ap (λ (j : ℕ). Some (at name j)) zero_plus

got : (xs : List ℕ) (k : ℕ) → k < length xs → get_or xs k 0 ≡ slice_index xs k
got xs k lt = get_or_default_zero xs k 0 lt

module _ (chips : Chips) (name : List ℕ) (top : Entry) (e : Elab) (pins : EndsHavePins chips) (found : find_chip chips name ≡ Some top) (faultless : IsFaultless chips (top.name ∷ []) top) (is : IsElaborated chips top e) (ordered : AreOrdered e.net.nodes e.net.blocks) (tree : List PartIn) (listed : IsTree chips top tree)
    (outside : Environment) (inputs : Inputs) (n : ℕ) (v : ℕ → ℕ → Bool) (hear : AllHear chips top e is name pins found tree listed outside inputs n) (are : AreValues e.net inputs n v)
    (wires : List ℕ → Histories) (acts : BehavesIn outside chips top n wires) (ins : ComesIn top e inputs n wires) where
  abbrev node : Driver → ℕ
  node d = node_of is.low is.high is.at d

  abbrev own : List ℕ → Histories
  own = shown chips name top e pins found is tree listed outside inputs n v hear are

  -- what drives a bit, in the behaviour
  abbrev value : ℕ → Driver → Bool
  value c Low = false
  value c High = true
  value c (Input m bit) = wires [] m bit c
  value c (Output path bit) = wires path (codes "out") bit c

  abbrev Same : ℕ → Type 0
  Same c = (d : Driver) → IsDriver chips top d → v (node d) c ≡ value c d

  -- ---- each bit of the behaviour is what drives it

  wired_at : (c : ℕ) → c < n → (path : List ℕ) (chip : Entry) (o : Option End) → chip_at chips top path ≡ Some chip → end_of chips.memories chip ≡ o → ChipWired false true chips chip o (λ m bit. wires path m bit c) (λ i m bit. wires (path ++ i ∷ []) m bit c) (λ k. EndActs outside path c k (wires path))
  wired_at c lt path chip o there is_end =
      subst (λ (x : Option End). ChipWired false true chips chip x (λ m bit. wires path m bit c) (λ i m bit. wires (path ++ i ∷ []) m bit c) (λ k. EndActs outside path c k (wires path))) is_end (acts c lt path chip there)

  abbrev as_numbers : ℕ → List ℕ → Wires ℕ
  as_numbers c path m bit = digit (wires path m bit c)

  wired_numbers : (c : ℕ) → c < n → AreWired chips top 0 1 (as_numbers c)
  wired_numbers c lt path chip there no_end =
      subst (λ (ps : List Part). PartsWired 0 1 chips chip ps (λ m bit. digit (wires path m bit c)) (λ i m bit. digit (wires (path ++ i ∷ []) m bit c))) (sym (ap (λ (o : Option End). parts_unless o (parts_of_body chip.chip.body)) no_end))
      (map_parts digit false true 0 1 refl refl chips chip (parts_of_body chip.chip.body) (λ m bit. wires path m bit c) (λ i m bit. wires (path ++ i ∷ []) m bit c) (wired_at c lt path chip None there no_end))

  decoded : (c : ℕ) (d : Driver) → nat_eq (node_of 0 1 (as_numbers c) d) 1 ≡ value c d
  decoded c Low = refl
  decoded c High = refl
  decoded c (Input m bit) = digit_back (wires [] m bit c)
  decoded c (Output path bit) = digit_back (wires path (codes "out") bit c)

  wires_driven : (c : ℕ) → c < n → (path m : List ℕ) (bit : ℕ) (g : IsDriven chips top path m bit) → wires path m bit c ≡ value c g.d
  wires_driven c lt path m bit g =
      sym (digit_back (wires path m bit c)) ∙ ap (λ (k : ℕ). nat_eq k 1) (g.joins 0 1 (as_numbers c) (wired_numbers c lt)) ∙ decoded c g.d

  pub at_same : (c : ℕ) → c < n → Same c → (path m : List ℕ) (bit : ℕ) → IsDriven chips top path m bit → v (is.at path m bit) c ≡ wires path m bit c
  at_same c lt same path m bit g =
      ap (λ (k : ℕ). v k c) (g.same e.net is.low is.high is.block is.at is.numbering) ∙ same g.d g.is ∙ sym (wires_driven c lt path m bit g)

  -- ---- the inputs of ends

  in_driven : (path : List ℕ) (chip : Entry) (k : End) → chip_at chips top path ≡ Some chip → end_of chips.memories chip ≡ Some k → (m : List ℕ) (width : ℕ) → find_value m (end_inputs k) ≡ Some width → (bit : ℕ) → bit < width → IsDriven chips top path m bit
  in_driven path chip k there is_end m width wide bit lt =
      let f = fine chips name top pins found faultless path chip there in
      input_driven chips name top pins found faultless path chip there m bit (end_bit chip k m width bit (pins f.name chip k f.found is_end) wide lt)

  -- ---- one cycle

  module _ (c : ℕ) (lt : c < n) (past : (d : ℕ) → d < c → Same d) where
    -- all that stand before a node agree
    abbrev Before : ℕ → Type 0
    Before k = (d : Driver) → IsDriver chips top d → node d < k → v (node d) c ≡ value c d

    input_now : (m : List ℕ) (bit : ℕ) → StandsIn (all_bits top.chip.inputs) m bit → v (is.at [] m bit) c ≡ wires [] m bit c
    input_now m bit s =
        let b = bit_in top.chip.inputs s.k s.at s.there in
        let at_node : is.at [] m bit ≡ is.at [] b.pin.name s.at.bit = ap (λ (x : List ℕ). is.at [] x bit) (s.name_is ∙ b.named) ∙ ap (is.at [] b.pin.name) s.bit_is in
        let own_node : is.at [] s.at.name s.at.bit ≡ is.at [] b.pin.name s.at.bit = ap (λ (x : List ℕ). is.at [] x s.at.bit) b.named in
        let is_pin = subst (λ (k : ℕ). slice_get e.net.nodes k ≡ Some nodes.Pin) own_node (is.inputs s.k s.at s.there) in
        let left = stands_left top.chip.inputs top.chip.outputs b.place b.pin b.there in
        let pin_there : slice_get e.pins b.place ≡ Some (pin_at (is.at []) b.pin) =
        ap (λ (x : List PinAt). slice_get x b.place) is.pins ∙ slice_get-map (pin_at (is.at [])) (top.chip.inputs ++ top.chip.outputs) b.place ∙ ap (option_map (pin_at (is.at []))) left in
        let told = ins b.place s.at.bit (is.at [] b.pin.name s.at.bit) c (pin_at (is.at []) b.pin) (slice_get_within top.chip.inputs b.place b.pin b.there) lt pin_there (node_there (is.at []) b.pin.name (pin_width b.pin) s.at.bit b.below) in
        let wire : wires [] m bit c ≡ wires [] b.pin.name s.at.bit c = ap (λ (x : List ℕ). wires [] x bit c) (s.name_is ∙ b.named) ∙ ap (λ (j : ℕ). wires [] b.pin.name j c) s.bit_is in
        ap (λ (k : ℕ). v k c) at_node ∙ are c (is.at [] b.pin.name s.at.bit) nodes.Pin lt is_pin ∙ sym told ∙ sym wire

    -- an input bit of an end whose node stands before
    in_now : (path : List ℕ) (chip : Entry) (k : End) → chip_at chips top path ≡ Some chip → end_of chips.memories chip ≡ Some k → (m : List ℕ) (width : ℕ) → find_value m (end_inputs k) ≡ Some width → (bit : ℕ) → bit < width → (at : ℕ) → Before at → is.at path m bit < at → own path m bit c ≡ wires path m bit c
    in_now path chip k there is_end m width wide bit below at go less =
        let g = in_driven path chip k there is_end m width wide bit below in
        let same = g.same e.net is.low is.high is.block is.at is.numbering in
        ap (λ (i : ℕ). v i c) same ∙ go g.d g.is (subst (λ (i : ℕ). i < at) same less) ∙ sym (wires_driven c lt path m bit g)

    -- the address of a block stands before the bits of its word
    address_early : (path : List ℕ) (bit bits : ℕ) (x : Block) → x.address ≡ nodes_of bits (is.at path (codes "address")) → slice_get e.net.blocks (is.block path) ≡ Some x → slice_get e.net.nodes (is.at path (codes "out") bit) ≡ Some (Word (is.block path) bit) → (i : ℕ) → i < bits → is.at path (codes "address") i < is.at path (codes "out") bit
    address_early path bit bits x at there word i below =
        let m = is.at path (codes "out") bit in
        let fit : MatchOption (slice_get e.net.blocks (is.block path)) ⊥ (IsReadable m (length e.net.nodes)) = (ordered.fit m (Word (is.block path) bit) word).1 in
        let readable : IsReadable m (length e.net.nodes) x = subst (λ (o : Option Block). MatchOption o ⊥ (IsReadable m (length e.net.nodes))) there fit in
        let early : All (λ j. j < m) (nodes_of bits (is.at path (codes "address"))) = subst (All (λ (j : ℕ). j < m)) at readable.0 in
        let long = row_length (is.at path (codes "address")) bits 0 in
        let inside : i < length (nodes_of bits (is.at path (codes "address"))) = omega (arith, long, below) in
        let zero_plus : 0 + i ≡ i = omega arith in
        subst (λ (j : ℕ). j < m) (got (nodes_of bits (is.at path (codes "address"))) i inside ∙ at_row (is.at path (codes "address")) bits 0 i below ∙ ap (is.at path (codes "address")) zero_plus) (early i 0 inside)

    now_of : (path : List ℕ) (chip : Entry) (k : End) → chip_at chips top path ≡ Some chip → end_of chips.memories chip ≡ Some k → (bit : ℕ) → bit < end_nodes (Some k) → Before (is.at path (codes "out") bit) → Now outside path c (own path) (wires path) k
    now_of path chip ends.Nand there is_end zero below go =
        let s = stands_in chips top e is path chip ends.Nand there is_end in
        let fit = ordered.fit (is.at path (codes "out") 0) (Nand (is.at path (codes "a") 0) (is.at path (codes "b") 0)) s in (
          in_now path chip ends.Nand there is_end (codes "a") 1 refl 0 (omega arith) (is.at path (codes "out") 0) go fit.0,
          in_now path chip ends.Nand there is_end (codes "b") 1 refl 0 (omega arith) (is.at path (codes "out") 0) go fit.1,
        )
    now_of path chip ends.Nand there is_end (suc bit) below go = absurd (omega arith)
    now_of path chip ends.Dff there is_end bit below go = tt
    now_of path chip ends.Keyboard there is_end bit below go = tt
    now_of path chip ends.Rom there is_end bit below go = λ k less.
        let s = stands_in chips top e is path chip ends.Rom there is_end in
        in_now path chip ends.Rom there is_end (codes "address") 15 refl k less (is.at path (codes "out") bit) go
        (address_early path bit 15 (rom_block is.low (is.at path)) refl s.there (s.words bit below) k less)
    now_of path chip (ends.Block bits) there is_end bit below go = λ k less.
        let s = stands_in chips top e is path chip (ends.Block bits) there is_end in
        in_now path chip (ends.Block bits) there is_end (codes "address") bits refl k less (is.at path (codes "out") bit) go
        (address_early path bit bits (memory_block bits (is.at path)) refl s.there (s.words bit below) k less)

    past_of : (path : List ℕ) (chip : Entry) (k : End) → chip_at chips top path ≡ Some chip → end_of chips.memories chip ≡ Some k → Past outside path c (own path) (wires path) k
    past_of path chip k there is_end d less m width wide bit below = at_same d (omega (arith, less, lt)) (past d less) path m bit (in_driven path chip k there is_end m width wide bit below)

    output_now : (path : List ℕ) (bit : ℕ) → HasOutput chips top path bit → Before (is.at path (codes "out") bit) → v (is.at path (codes "out") bit) c ≡ wires path (codes "out") bit c
    output_now path bit h go =
        out_same outside path c (own path) (wires path) h.e
        (acts_at chips name top e pins found is tree listed outside inputs n v hear are path h.chip h.e h.there h.is c lt)
        (wired_at c lt path h.chip (Some h.e) h.there h.is)
        (past_of path h.chip h.e h.there h.is)
        (now_of path h.chip h.e h.there h.is bit h.below go)
        bit h.below

    now_by : (d : Driver) → IsDriver chips top d → Before (node d) → v (node d) c ≡ value c d
    now_by Low h go = low_is chips name top e pins found is tree listed outside inputs n v hear are c lt
    now_by High h go = high_is chips name top e pins found is tree listed outside inputs n v hear are c lt
    now_by (Input m bit) h go = input_now m bit h
    now_by (Output path bit) h go = output_now path bit h go

    below : (m : ℕ) → Before m
    below zero d h less = absurd (omega arith)
    below (suc m) d h less = now_by d h (λ d' h' before. below m d' h' (omega arith))

    pub now : Same c
    now d h = below (suc (node d)) d h (omega arith)

  -- ---- one cycle after another

  upto : (m c : ℕ) → c < m → c < n → Same c
  upto zero c less lt = absurd (omega arith)
  upto (suc m) c less lt = now c lt (λ d before. upto m d (omega arith) (omega arith))

  always : (c : ℕ) → c < n → Same c
  always c lt = upto (suc c) c (omega arith) lt

  -- ---- what the directory shows

  pin_shown : (k bit node c : ℕ) (pin : PinAt) → c < n → slice_get e.pins k ≡ Some pin → slice_get pin.nodes bit ≡ Some node → wires [] pin.name bit c ≡ v node c
  pin_shown k bit m c pin lt there here =
      let p = comes (pin_at (is.at [])) (top.chip.inputs ++ top.chip.outputs) e.pins k pin is.pins there in
      let in_it = ap (λ (x : PinAt). slice_get x.nodes bit) p.is ∙ here in
      let b = comes (λ (x : BitOf). is.at [] x.name x.bit) (bits_of p.item.name 0 (pin_width p.item)) (pin_at (is.at []) p.item).nodes bit m refl in_it in
      let less = slice_get_within (bits_of p.item.name 0 (pin_width p.item)) bit b.item b.there in
      let long = bits_long p.item.name 0 (pin_width p.item) in
      let g = pin_driven chips name top pins found faultless k p.item bit (omega (arith, less, long)) (joined top.chip.inputs top.chip.outputs k p.item p.there) b.item b.there in
      let named = ap (λ (x : PinAt). x.name) p.is in
      sym (at_same c lt (always c lt) [] pin.name bit (subst (λ (x : List ℕ). IsDriven chips top [] x bit) named g)) ∙ ap (λ (x : ℕ). v x c) (pin_is chips name top e pins found is tree listed k bit m pin there here)

  part_shown : (k j node c : ℕ) (part : PartIn) (given : PartAt) (b : BitOf) → c < n → slice_get tree k ≡ Some part → slice_get e.parts k ≡ Some given → slice_get (all_bits part.chip.chip.outputs) j ≡ Some b → slice_get given.outs j ≡ Some node → wires part.path b.name b.bit c ≡ v node c
  part_shown k j m c part given b lt there here bit at =
      let same = part_is chips name top e pins found is tree listed outside inputs n k part given there here in
      let stands = part_stands chips top e is name pins found tree listed outside inputs n k part there in
      let i = bit_in part.chip.chip.outputs j b bit in
      let g = subst (λ (x : List ℕ). IsDriven chips top part.path x b.bit) (sym i.named) (out_driven chips name top pins found faultless part.path part.chip stands i.place i.pin i.there b.bit i.below) in
      sym (at_same c lt (always c lt) part.path b.name b.bit g)
      ∙ ap (λ (x : ℕ). v x c) (part_node (is.at part.path) (all_bits part.chip.chip.outputs) j m b bit (ap (λ (x : PartAt). slice_get x.outs j) same ∙ at))

  pub shows : Shows chips tree e outside inputs n v wires
  shows = record {
    pins = pin_shown;
    parts = part_shown;
    words = λ k b bits c a part given le small there here block is_end.
        let stands = part_stands chips top e is name pins found tree listed outside inputs n k part there in
        sym (word_same outside part.path c (own part.path) (wires part.path) bits a (λ d less m width wide bit fits. at_same d (omega (arith, less, le)) (always d (omega (arith, less, le))) part.path m bit (in_driven part.path part.chip (ends.Block bits) stands is_end m width wide bit fits)))
        ∙ words_at chips name top e pins found is tree listed outside inputs n v hear are k b bits c a part given small there here block is_end;
  }

pub only : OnlyLaw
only chips name top e pins found faultless is ordered tree listed outside inputs n v told are wires acts ins =
    shows chips name top e pins found faultless is ordered tree listed outside inputs n v (all_hear chips top e is name pins found tree listed outside inputs n told) are wires acts ins
