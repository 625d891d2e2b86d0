-- Inputs that tell of an outside: each node is looked up among the bits of the chip's inputs and the ends.
use Rattle.std.proofs.Common.{◌≡◌, ℕ, zero, suc, ◌+◌, ◌<◌, ◌≤◌, ◌^◌, ◌⊎◌, inl, inr, codes, Bool, true, false, nat_eq, List, [], ◌∷◌, ◌++◌, length, map, Option, Some, None, refl, sym, ap, ap₂, subst, ◌∙◌, arith, eq-eqb, ne_eqb}
use Rattle.std.specs.Prelude.{slice_get, if◌then◌else◌}
use Rattle.std.proofs.lemmas.Bool.{cases_eq}
use Rattle.std.proofs.lemmas.Option.{slice_get_within}
use Rattle.word16.specs.Words.{has_bit}
use Rattle.hdl_tree.specs.declared.tree.Pin.{Pin}
use Rattle.hdl_tree.specs.declared.library.Entry.{Entry}
use Rattle.hdl_tree.specs.declared.ends.End.{End}
use Rattle.hdl_tree.specs.declared.ends.End.TheVariants as ends
use Rattle.hdl_tree.specs.Chips.{Chips, end_of, find_chip, pin_width}
use Rattle.hdl_tree.specs.Behaviour.{Histories, chip_at}
use Rattle.hdl_check.specs.Tables.{BitOf, bits_of}
use Rattle.netlist.specs.Value.{Inputs}
use Rattle.hdl_nodes.proofs.Numbers.{number_same, number_word}
use Rattle.hdl_flatten.specs.declared.flat.PinAt.{PinAt}
use Rattle.hdl_flatten.specs.Ends.{EndsHavePins}
use Rattle.hdl_flatten.specs.Trees.{IsTree, PartIn, all_bits}
use Rattle.hdl_flatten.specs.Flat.{IsEndBit, IsEndBlock, block_at, pin_at}
use Rattle.hdl_elab.specs.declared.put.Elab.{Elab}
use Rattle.hdl_elab.specs.Elaborated.{IsElaborated}
use Rattle.hdl_elab.proofs.Behaves.{bit_is, comes}
use Rattle.hdl_elab.proofs.Trees.{Stands, in_tree, part_in}
use Rattle.hdl_elab.proofs.There.{bit_stands, left_of}
use Rattle.history_laws.specs.Environment.{Environment, IsOfWords}
use Rattle.history_laws.specs.Told.{AreGiven}
use Rattle.history_laws.specs.Laws.{InputsLaw}
use Rattle.history_laws.proofs.Acts.{EndHears}
use Rattle.history_laws.proofs.Hears.{AllHear, part_stands, told_all}

abbrev or_else : {X : Type 0} → Option X → X → X
or_else (Some x) y = x
or_else None y = y

abbrev is_block : Option ℕ → ℕ → Bool
is_block None b = false
is_block (Some x) b = nat_eq x b

block_is : (o : Option ℕ) (b : ℕ) → is_block o b ≡ true → o ≡ Some b
block_is None b h = absurd cc
block_is (Some x) b h =
    elim (cases_eq x b) [
      | inl e ↦ ap (λ (k : ℕ). Some k) e
      | inr ne ↦ absurd (let f : true ≡ false = sym h ∙ ne_eqb x b ne in cc)
    ]

module _ (chips : Chips) (top : Entry) (e : Elab) (is : IsElaborated chips top e) (outside : Environment) (given : Histories) where
  -- ---- what is looked up

  abbrev input_at : List BitOf → ℕ → ℕ → Option Bool
  input_at [] c node = None
  input_at (b ∷ bs) c node = if nat_eq (is.at [] b.name b.bit) node then Some (given b.name b.bit c) else input_at bs c node

  -- one of the lowest bits of a keyboard's out
  abbrev key_at : ℕ → List ℕ → ℕ → ℕ → Bool → Bool
  key_at zero path c node rest = rest
  key_at (suc k) path c node rest = if nat_eq (is.at path (codes "out") k) node then has_bit (outside.key path c) k else key_at k path c node rest

  abbrev key_of : Option End → List ℕ → ℕ → ℕ → Bool → Bool
  key_of None path c node rest = rest
  key_of (Some ends.Nand) path c node rest = rest
  key_of (Some ends.Dff) path c node rest = rest
  key_of (Some ends.Keyboard) path c node rest = key_at 16 path c node rest
  key_of (Some ends.Rom) path c node rest = rest
  key_of (Some (ends.Block bits)) path c node rest = rest

  abbrev keys_at : List PartIn → ℕ → ℕ → Bool
  keys_at [] c node = false
  keys_at (p ∷ ps) c node = key_of (end_of chips.memories p.chip) p.path c node (keys_at ps c node)

  abbrev stored : Option End → List ℕ → ℕ → ℕ
  stored None path a = 0
  stored (Some ends.Nand) path a = 0
  stored (Some ends.Dff) path a = 0
  stored (Some ends.Keyboard) path a = 0
  stored (Some ends.Rom) path a = outside.rom path a
  stored (Some (ends.Block bits)) path a = outside.words path a

  abbrev words_at : List PartIn → ℕ → ℕ → ℕ
  words_at [] b a = 0
  words_at (p ∷ ps) b a = if is_block (block_at (end_of chips.memories p.chip) (is.block p.path)) b then stored (end_of chips.memories p.chip) p.path a else words_at ps b a

  -- ---- what is found

  input_none : (bs : List BitOf) (c node : ℕ) → ((i : ℕ) (b : BitOf) → slice_get bs i ≡ Some b → is.at [] b.name b.bit ≡ node → ⊥) → input_at bs c node ≡ None
  input_none [] c node h = refl
  input_none (b ∷ bs) c node h =
      ap (λ (t : Bool). if t then Some (given b.name b.bit c) else input_at bs c node) (ne_eqb (is.at [] b.name b.bit) node (h 0 b refl))
      ∙ input_none bs c node (λ i x there. h (suc i) x there)

  input_some : (bs : List BitOf) (c node : ℕ) (x : Bool) → ((i : ℕ) (b : BitOf) → slice_get bs i ≡ Some b → is.at [] b.name b.bit ≡ node → given b.name b.bit c ≡ x) → (i : ℕ) (b : BitOf) → slice_get bs i ≡ Some b → is.at [] b.name b.bit ≡ node → input_at bs c node ≡ Some x
  input_some [] c node x h i b there at = absurd cc
  input_some (d ∷ bs) c node x h i b there at =
      elim (cases_eq (is.at [] d.name d.bit) node) [
        | inl same ↦
            ap (λ (t : Bool). if t then Some (given d.name d.bit c) else input_at bs c node) (eq-eqb (is.at [] d.name d.bit) node same) ∙ ap (λ (y : Bool). Some y) (h 0 d refl same)
        | inr ne ↦
            ap (λ (t : Bool). if t then Some (given d.name d.bit c) else input_at bs c node) (ne_eqb (is.at [] d.name d.bit) node ne)
            ∙ later i there ne (λ j here. input_some bs c node x (λ k y near. h (suc k) y near) j b here at)
      ]
    where
      later : (j : ℕ) → slice_get (d ∷ bs) j ≡ Some b → (is.at [] d.name d.bit ≡ node → ⊥) → ((k : ℕ) → slice_get bs k ≡ Some b → input_at bs c node ≡ Some x) → input_at bs c node ≡ Some x
      later zero here ne go = let same : d ≡ b = cc in absurd (ne (ap (λ (y : BitOf). is.at [] y.name y.bit) same ∙ at))
      later (suc j) here ne go = go j here

  key_kept : (m : ℕ) (path : List ℕ) (c node : ℕ) (rest x : Bool) → ((k : ℕ) → k < m → is.at path (codes "out") k ≡ node → has_bit (outside.key path c) k ≡ x) → rest ≡ x → key_at m path c node rest ≡ x
  key_kept zero path c node rest x h r = r
  key_kept (suc m) path c node rest x h r =
      elim (cases_eq (is.at path (codes "out") m) node) [
        | inl same ↦ ap (λ (t : Bool). if t then has_bit (outside.key path c) m else key_at m path c node rest) (eq-eqb (is.at path (codes "out") m) node same) ∙ h m (omega arith) same
        | inr ne ↦
            ap (λ (t : Bool). if t then has_bit (outside.key path c) m else key_at m path c node rest) (ne_eqb (is.at path (codes "out") m) node ne)
            ∙ key_kept m path c node rest x (λ k lt. h k (omega (arith, lt))) r
      ]

  key_found : (m : ℕ) (path : List ℕ) (c node : ℕ) (rest x : Bool) → ((k : ℕ) → k < m → is.at path (codes "out") k ≡ node → has_bit (outside.key path c) k ≡ x) → (j : ℕ) → j < m → is.at path (codes "out") j ≡ node → key_at m path c node rest ≡ x
  key_found zero path c node rest x h j lt at = absurd (omega arith)
  key_found (suc m) path c node rest x h j lt at =
      elim (cases_eq (is.at path (codes "out") m) node) [
        | inl same ↦ ap (λ (t : Bool). if t then has_bit (outside.key path c) m else key_at m path c node rest) (eq-eqb (is.at path (codes "out") m) node same) ∙ h m (omega arith) same
        | inr ne ↦
            ap (λ (t : Bool). if t then has_bit (outside.key path c) m else key_at m path c node rest) (ne_eqb (is.at path (codes "out") m) node ne)
            ∙ key_found m path c node rest x (λ k less. h k (omega (arith, less))) j (elim (cases_eq j m) [ inl q ↦ absurd (ne (ap (is.at path (codes "out")) (sym q) ∙ at)) | inr other ↦ omega (arith, lt) ]) at
      ]

  -- ---- among the parts, the chip itself before them

  module _ (all : List PartIn) (stand : (i : ℕ) (p : PartIn) → slice_get all i ≡ Some p → chip_at chips top p.path ≡ Some p.chip) where
    -- bit j of the keyboard at a path
    module _ (path : List ℕ) (chip : Entry) (there : chip_at chips top path ≡ Some chip) (is_key : end_of chips.memories chip ≡ Some ends.Keyboard) (c j : ℕ) (lt : j < 16) where
      abbrev node : ℕ
      node = is.at path (codes "out") j

      own_bit : IsEndBit chips top is.at node
      own_bit = record { path = path; chip = chip; e = ends.Keyboard; bit = j; there = there; is_end = is_key; below = lt; node = refl }

      one_key : (p : PartIn) → chip_at chips top p.path ≡ Some p.chip → end_of chips.memories p.chip ≡ Some ends.Keyboard → (k : ℕ) → k < 16 → is.at p.path (codes "out") k ≡ node → has_bit (outside.key p.path c) k ≡ has_bit (outside.key path c) j
      unfolding own_bit
      one_key p at kind k less same =
          let one = is.alone node (record { path = p.path; chip = p.chip; e = ends.Keyboard; bit = k; there = at; is_end = kind; below = less; node = same }) own_bit in
          ap₂ (λ (q : List ℕ) (m : ℕ). has_bit (outside.key q c) m) one.0 one.1

      kept_by : (p : PartIn) (o : Option End) (rest : Bool) → chip_at chips top p.path ≡ Some p.chip → end_of chips.memories p.chip ≡ o → rest ≡ has_bit (outside.key path c) j → key_of o p.path c node rest ≡ has_bit (outside.key path c) j
      kept_by p None rest at kind r = r
      kept_by p (Some ends.Nand) rest at kind r = r
      kept_by p (Some ends.Dff) rest at kind r = r
      kept_by p (Some ends.Keyboard) rest at kind r = key_kept 16 p.path c node rest (has_bit (outside.key path c) j) (one_key p at kind) r
      kept_by p (Some ends.Rom) rest at kind r = r
      kept_by p (Some (ends.Block bits)) rest at kind r = r

      key_is : (ps : List PartIn) → ((i : ℕ) (p : PartIn) → slice_get ps i ≡ Some p → chip_at chips top p.path ≡ Some p.chip) → (i : ℕ) → slice_get ps i ≡ Some (part_in path chip) → keys_at ps c node ≡ has_bit (outside.key path c) j
      key_is [] each i here = absurd cc
      key_is (p ∷ ps) each zero here =
          let same : p ≡ part_in path chip = cc in
          ap (λ (q : PartIn). key_of (end_of chips.memories q.chip) q.path c node (keys_at ps c node)) same
          ∙ ap (λ (o : Option End). key_of o path c node (keys_at ps c node)) is_key
          ∙ key_found 16 path c node (keys_at ps c node) (has_bit (outside.key path c) j) (one_key (part_in path chip) there is_key) j lt refl
      key_is (p ∷ ps) each (suc i) here =
          kept_by p (end_of chips.memories p.chip) (keys_at ps c node) (each 0 p refl) refl (key_is ps (λ k q near. each (suc k) q near) i here)

      no_input : input_at (all_bits top.chip.inputs) c node ≡ None
      no_input = input_none (all_bits top.chip.inputs) c node (λ i b near same. is.outside i b near (subst (IsEndBit chips top is.at) (sym same) own_bit))

    -- the word at an address of the block at a path
    module _ (path : List ℕ) (chip : Entry) (there : chip_at chips top path ≡ Some chip) (b a : ℕ) (its : block_at (end_of chips.memories chip) (is.block path) ≡ Some b) where
      abbrev its_word : ℕ
      its_word = stored (end_of chips.memories chip) path a

      one_block : (p : PartIn) → chip_at chips top p.path ≡ Some p.chip → is_block (block_at (end_of chips.memories p.chip) (is.block p.path)) b ≡ true → stored (end_of chips.memories p.chip) p.path a ≡ its_word
      one_block p at h =
          let q : IsEndBlock chips top is.block b = record { path = p.path; chip = p.chip; there = at; its = block_is _ b h } in
          let r : IsEndBlock chips top is.block b = record { path = path; chip = chip; there = there; its = its } in
          let same = is.blocks_apart b q r in
          let two : Some p.chip ≡ Some chip = sym at ∙ ap (chip_at chips top) same ∙ there in
          let one : p.chip ≡ chip = cc in
          ap₂ (λ (x : Entry) (y : List ℕ). stored (end_of chips.memories x) y a) one same

      chosen : (p : PartIn) (t : Bool) (rest : ℕ) → chip_at chips top p.path ≡ Some p.chip → is_block (block_at (end_of chips.memories p.chip) (is.block p.path)) b ≡ t → rest ≡ its_word → (if t then stored (end_of chips.memories p.chip) p.path a else rest) ≡ its_word
      chosen p true rest at h r = one_block p at h
      chosen p false rest at h r = r

      own_block : is_block (block_at (end_of chips.memories chip) (is.block path)) b ≡ true
      own_block = ap (λ (o : Option ℕ). is_block o b) its ∙ eq-eqb b b refl

      word_is : (ps : List PartIn) → ((i : ℕ) (p : PartIn) → slice_get ps i ≡ Some p → chip_at chips top p.path ≡ Some p.chip) → (i : ℕ) → slice_get ps i ≡ Some (part_in path chip) → words_at ps b a ≡ its_word
      word_is [] each i here = absurd cc
      word_is (p ∷ ps) each zero here =
          let same : p ≡ part_in path chip = cc in
          ap (λ (q : PartIn). if is_block (block_at (end_of chips.memories q.chip) (is.block q.path)) b then stored (end_of chips.memories q.chip) q.path a else words_at ps b a) same
          ∙ ap (λ (t : Bool). if t then its_word else words_at ps b a) own_block
      word_is (p ∷ ps) each (suc i) here =
          chosen p (is_block (block_at (end_of chips.memories p.chip) (is.block p.path)) b) (words_at ps b a) (each 0 p refl) refl (word_is ps (λ k q near. each (suc k) q near) i here)

  -- ---- the inputs

  module _ (name : List ℕ) (pins : EndsHavePins chips) (found : find_chip chips name ≡ Some top) (tree : List PartIn) (listed : IsTree chips top tree) (small : IsOfWords outside) (n : ℕ) where
    abbrev all_parts : List PartIn
    all_parts = part_in [] top ∷ tree

    abbrev made : Inputs
    made = record { pin = λ c node. or_else (input_at (all_bits top.chip.inputs) c node) (keys_at all_parts c node); loaded = words_at all_parts }

    each_stands : (i : ℕ) (p : PartIn) → slice_get all_parts i ≡ Some p → chip_at chips top p.path ≡ Some p.chip
    each_stands zero p here = let same : part_in [] top ≡ p = cc in subst (λ (q : PartIn). chip_at chips top q.path ≡ Some q.chip) same refl
    each_stands (suc i) p here = part_stands chips top e is name pins found tree listed outside made n i p here

    -- a chip at a path is among them
    place_of : (path : List ℕ) (chip : Entry) → chip_at chips top path ≡ Some chip → Stands all_parts (part_in path chip)
    place_of [] chip at = let same : top ≡ chip = cc in record { k = 0; there = ap (λ (x : Entry). Some (part_in [] x)) same }
    place_of (l ∷ r) chip at = let s = in_tree chips top chip tree l r listed at in record { k = suc s.k; there = s.there }

    hear : AllHear chips top e is name pins found tree listed outside made n
    hear path chip kind there is_end = by kind is_end
      where
        word : (k : End) → end_of chips.memories chip ≡ Some k → block_at (Some k) (is.block path) ≡ Some (is.block path) → (a : ℕ) → words_at all_parts (is.block path) a ≡ stored (Some k) path a
        word k is_k own a =
            let s = place_of path chip there in
            word_is all_parts each_stands path chip there (is.block path) a (ap (λ (o : Option End). block_at o (is.block path)) is_k ∙ own) all_parts each_stands s.k s.there
            ∙ ap (λ (o : Option End). stored o path a) is_k

        by : (k : End) → end_of chips.memories chip ≡ Some k → EndHears outside made n path (is.block path) k (is.at path)
        by ends.Nand is_k = tt
        by ends.Dff is_k = tt
        by ends.Keyboard is_k = λ c lt.
            let s = place_of path chip there in
            number_same 16 (λ k. made.pin c (is.at path (codes "out") k)) (has_bit (outside.key path c))
            (λ k less.
            ap (λ (o : Option Bool). or_else o (keys_at all_parts c (is.at path (codes "out") k))) (no_input all_parts each_stands path chip there is_k c k less)
            ∙ key_is all_parts each_stands path chip there is_k c k less all_parts each_stands s.k s.there)
            ∙ number_word (outside.key path c) (small.key path c)
        by ends.Rom is_k = λ a lt. (word ends.Rom is_k refl a, small.rom path a)
        by (ends.Block bits) is_k = λ a lt. (word (ends.Block bits) is_k refl a, small.words path a)

    bits_given : AreGiven top e made given
    bits_given k bit node c pin less there here =
        let p = comes (pin_at (is.at [])) (top.chip.inputs ++ top.chip.outputs) e.pins k pin is.pins there in
        let in_it = ap (λ (x : PinAt). slice_get x.nodes bit) p.is ∙ here in
        let b = comes (λ (x : BitOf). is.at [] x.name x.bit) (bits_of p.item.name 0 (pin_width p.item)) (pin_at (is.at []) p.item).nodes bit node refl in_it in
        let b_is = bit_is p.item.name 0 (pin_width p.item) bit b.item b.there in
        let zero_plus : 0 + bit ≡ bit = omega arith in
        let at = left_of top.chip.inputs top.chip.outputs k p.item less p.there in
        let s = bit_stands top.chip.inputs k p.item at bit b.item b.there in
        let named : b.item.name ≡ pin.name = ap (λ (x : BitOf). x.name) b_is ∙ ap (λ (x : PinAt). x.name) p.is in
        let number : b.item.bit ≡ bit = ap (λ (x : BitOf). x.bit) b_is ∙ zero_plus in
        let own = input_some (all_bits top.chip.inputs) c node (given b.item.name b.item.bit c)
        (λ i x near same.
        let index = is.apart i s.k x b.item near s.there (same ∙ sym b.is) in
        let two : Some x ≡ Some b.item = sym near ∙ ap (slice_get (all_bits top.chip.inputs)) index ∙ s.there in
        let one : x ≡ b.item = cc in
        ap (λ (y : BitOf). given y.name y.bit c) one)
        s.k b.item s.there b.is in
        ap (λ (o : Option Bool). or_else o (keys_at all_parts c node)) own ∙ ap₂ (λ (x : List ℕ) (y : ℕ). given x y c) named number

pub given_inputs : InputsLaw
given_inputs chips name top e pins found is tree listed outside small given n = record {
  inputs = made chips top e is outside given name pins found tree listed small n;
  told = told_all chips top e is name pins found tree listed outside (made chips top e is outside given name pins found tree listed small n) n (hear chips top e is outside given name pins found tree listed small n);
  bits = bits_given chips top e is outside given name pins found tree listed small n;
}
