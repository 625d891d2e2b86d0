-- The values of the netlist of an elaborated chip are a behaviour, whatever is outside, and the directory shows it.
use Rattle.std.proofs.Common.{◌≡◌, ℕ, ◌<◌, ◌^◌, codes, Bool, true, false, List, [], ◌∷◌, ◌++◌, Option, Some, None, refl, sym, ap, subst, ◌∙◌}
use Rattle.std.specs.Prelude.{◌&&◌, not, slice_get}
use Rattle.std.proofs.lemmas.Option.{get_or_from_slice_get, slice_get_within}
use Rattle.hdl_tree.specs.declared.library.Entry.{Entry}
use Rattle.hdl_tree.specs.declared.ends.End.{End}
use Rattle.hdl_tree.specs.declared.ends.End.TheVariants as ends
use Rattle.hdl_tree.specs.Memory.{number}
use Rattle.hdl_tree.specs.Chips.{Chips, end_of, find_chip, parts_of_body}
use Rattle.hdl_tree.specs.Behaviour.{Histories, Wires, ChipWired, chip_at}
use Rattle.hdl_check.specs.Tables.{BitOf}
use Rattle.netlist.specs.declared.node.Node.TheVariants as nodes
use Rattle.netlist.specs.declared.node.Node.TheVariants.{Nand, Zero}
use Rattle.netlist.specs.Value.{Inputs, AreValues, held_in}
use Rattle.hdl_nodes.specs.Numbering.{EndStands}
use Rattle.hdl_nodes.proofs.Numbered.{map_parts}
use Rattle.hdl_flatten.specs.declared.flat.PinAt.{PinAt}
use Rattle.hdl_flatten.specs.declared.flat.PartAt.{PartAt}
use Rattle.hdl_flatten.specs.Ends.{EndsHavePins}
use Rattle.hdl_flatten.specs.Trees.{IsTree, PartIn, all_bits}
use Rattle.hdl_flatten.specs.Flat.{block_at, nodes_at, pin_at, part_at}
use Rattle.hdl_elab.specs.declared.put.Elab.{Elab}
use Rattle.hdl_elab.specs.Elaborated.{IsElaborated}
use Rattle.hdl_elab.proofs.Behaves.{comes, pin_node}
use Rattle.hdl_elab.proofs.There.{all_there}
use Rattle.history_laws.specs.Environment.{Environment, EndActs, BehavesIn, memory_word}
use Rattle.history_laws.specs.Told.{AreWords, ComesIn, Shows}
use Rattle.history_laws.specs.Laws.{EveryLaw, HasShown, HistoryLaw}
use Rattle.history_laws.proofs.Acts.{EndHears, end_acts, held_is}
use Rattle.history_laws.proofs.Hears.{AllHear, all_hear, is_listed, part_stands, stands_in, told_all}

-- an output bit of a part has the node that the directory lists
pub part_node : (at : Wires ℕ) (bits : List BitOf) (j node : ℕ) (b : BitOf) → slice_get bits j ≡ Some b → slice_get (nodes_at at bits) j ≡ Some node → at b.name b.bit ≡ node
part_node at bits j node b there e =
    let c = comes (λ (x : BitOf). at x.name x.bit) bits (nodes_at at bits) j node refl e in
    let one : Some c.item ≡ Some b = sym c.there ∙ there in
    let same : c.item ≡ b = cc in
    sym (ap (λ (x : BitOf). at x.name x.bit) same) ∙ c.is

module _ (chips : Chips) (name : List ℕ) (top : Entry) (e : Elab) (pins : EndsHavePins chips) (found : find_chip chips name ≡ Some top) (is : IsElaborated chips top e) (tree : List PartIn) (listed : IsTree chips top tree) where
  -- the bits by path of the nodes that the directory names
  pub pin_is : (k bit node : ℕ) (pin : PinAt) → slice_get e.pins k ≡ Some pin → slice_get pin.nodes bit ≡ Some node → is.at [] pin.name bit ≡ node
  pin_is k bit node pin there here =
      let p = comes (pin_at (is.at [])) (top.chip.inputs ++ top.chip.outputs) e.pins k pin is.pins there in
      let named = ap (λ (x : PinAt). x.name) p.is in
      let nodes = ap (λ (x : PinAt). slice_get x.nodes bit) p.is ∙ here in
      ap (λ (x : List ℕ). is.at [] x bit) (sym named) ∙ pin_node (is.at []) p.item bit node nodes

  pub part_is : (outside : Environment) (inputs : Inputs) (n k : ℕ) (part : PartIn) (given : PartAt) → slice_get tree k ≡ Some part → slice_get e.parts k ≡ Some given → part_at chips is.at is.block part ≡ given
  part_is outside inputs n k part given there here =
      let two : Some (part_at chips is.at is.block part) ≡ Some given = sym (is_listed chips top e is name pins found tree listed outside inputs n k part there) ∙ here in
      cc

  module _ (outside : Environment) (inputs : Inputs) (n : ℕ) (v : ℕ → ℕ → Bool) (hear : AllHear chips top e is name pins found tree listed outside inputs n) (are : AreValues e.net inputs n v) where
    abbrev pub shown : List ℕ → Histories
    shown path name bit c = v (is.at path name bit) c

    pub low_is : (c : ℕ) → c < n → v is.low c ≡ false
    low_is c lt = are c is.low Zero lt is.numbering.low_stands

    pub high_is : (c : ℕ) → c < n → v is.high c ≡ true
    high_is c lt = are c is.high (Nand is.low is.low) lt is.numbering.high_stands ∙ ap (λ (b : Bool). not (b && b)) (low_is c lt)

    here : (c : ℕ) → c < n → (path : List ℕ) (inner : Entry) → chip_at chips top path ≡ Some inner → (o : Option End) → end_of chips.memories inner ≡ o →
        ChipWired is.low is.high chips inner o (is.at path) (λ i. is.at (path ++ i ∷ [])) (λ k. EndStands e.net is.low (is.block path) k (is.at path)) →
        ChipWired false true chips inner o (λ name bit. shown path name bit c) (λ i name bit. shown (path ++ i ∷ []) name bit c) (λ k. EndActs outside path c k (shown path))
    here c lt path inner there None is_end wired = map_parts (λ node. v node c) is.low is.high false true (low_is c lt) (high_is c lt) chips inner (parts_of_body inner.chip.body) (is.at path) (λ i. is.at (path ++ i ∷ [])) wired
    here c lt path inner there (Some kind) is_end wired = end_acts e.net inputs n v are outside path is.low (is.block path) (is.at path) low_is kind wired (hear path inner kind there is_end) c lt

    pub behaves : BehavesIn outside chips top n shown
    behaves c lt path inner there = here c lt path inner there (end_of chips.memories inner) refl (is.numbering.wired path inner there)

    pub acts_at : (path : List ℕ) (chip : Entry) (kind : End) → chip_at chips top path ≡ Some chip → end_of chips.memories chip ≡ Some kind → (c : ℕ) → c < n → EndActs outside path c kind (shown path)
    acts_at path chip kind there is_end c lt =
        end_acts e.net inputs n v are outside path is.low (is.block path) (is.at path) low_is kind (stands_in chips top e is path chip kind there is_end) (hear path chip kind there is_end) c lt

    comes_in : ComesIn top e inputs n shown
    comes_in k bit node c pin less lt there here =
        let node_is = pin_is k bit node pin there here in
        let at = (all_there chips top e is).inputs k pin less there bit node (slice_get_within pin.nodes bit node here) in
        let is_pin = subst (λ (x : ℕ). slice_get e.net.nodes x ≡ Some nodes.Pin) (get_or_from_slice_get pin.nodes bit node node here) at in
        ap (λ (x : ℕ). v x c) node_is ∙ are c node nodes.Pin lt is_pin

    -- the words of a memory among the parts
    pub words_at : (k b bits c a : ℕ) (part : PartIn) (given : PartAt) → a < 2 ^ bits → slice_get tree k ≡ Some part → slice_get e.parts k ≡ Some given → given.block ≡ Some b → end_of chips.memories part.chip ≡ Some (ends.Block bits) → memory_word bits (outside.words part.path) (shown part.path) c a ≡ held_in e.net.blocks inputs.loaded v c b a
    words_at k b bits c a part given small there here block is_end =
        let same = part_is outside inputs n k part given there here in
        let two : Some (is.block part.path) ≡ Some b = sym (ap (λ (o : Option End). block_at o (is.block part.path)) is_end) ∙ ap (λ (x : PartAt). x.block) same ∙ block in
        let one : is.block part.path ≡ b = cc in
        let at = part_stands chips top e is name pins found tree listed outside inputs n k part there in
        let h = hear part.path part.chip (ends.Block bits) at is_end a small in
        sym (held_is e.net inputs n v are (is.block part.path) bits (is.at part.path) (stands_in chips top e is part.path part.chip (ends.Block bits) at is_end) (outside.words part.path) a h.0 c)
        ∙ ap (λ (x : ℕ). held_in e.net.blocks inputs.loaded v c x a) one

    shows : Shows chips tree e outside inputs n v shown
    shows = record {
      pins = λ k bit node c pin lt there here. ap (λ (x : ℕ). v x c) (pin_is k bit node pin there here);
      parts = λ k j node c part given b lt there here bit at.
          let same = part_is outside inputs n k part given there here in
          ap (λ (x : ℕ). v x c) (part_node (is.at part.path) (all_bits part.chip.chip.outputs) j node b bit (ap (λ (x : PartAt). slice_get x.outs j) same ∙ at));
      words = λ k b bits c a part given le small there here block is_end. words_at k b bits c a part given small there here block is_end;
    }

    pub has_shown : HasShown outside inputs n v chips top tree e
    has_shown = record { wires = shown; behaves = behaves; comes = comes_in; shows = shows }

pub history : HistoryLaw
history chips name top e pins found is tree listed outside inputs n v told are =
    has_shown chips name top e pins found is tree listed outside inputs n v (all_hear chips top e is name pins found tree listed outside inputs n told) are

-- ---- all inputs and all words

module _ (chips : Chips) (top : Entry) (e : Elab) (is : IsElaborated chips top e) (inputs : Inputs) where
  abbrev told_outside : Environment
  told_outside = record { key = λ path c. number 16 (λ k. inputs.pin c (is.at path (codes "out") k)); rom = λ path a. inputs.loaded (is.block path) a; words = λ path a. inputs.loaded (is.block path) a }

  told_at : AreWords inputs → (n : ℕ) (path : List ℕ) (kind : End) → EndHears told_outside inputs n path (is.block path) kind (is.at path)
  told_at small n path ends.Nand = tt
  told_at small n path ends.Dff = tt
  told_at small n path ends.Keyboard = λ c lt. refl
  told_at small n path ends.Rom = λ a lt. (refl, small (is.block path) a)
  told_at small n path (ends.Block bits) = λ a lt. (refl, small (is.block path) a)

pub every : EveryLaw
every chips name top e pins found is tree listed inputs small n =
    (told_outside chips top e is inputs, told_all chips top e is name pins found tree listed (told_outside chips top e is inputs) inputs n (λ path chip kind at is_end. told_at chips top e is inputs small n path kind))
