-- Bits of the directory of an elaborated chip: each is a bit of a pin or of an output, and has what drives it.
use Rattle.std.proofs.Common.{◌≡◌, ℕ, zero, suc, ◌+◌, ◌<◌, ◌⊎◌, inl, inr, Bool, true, false, cond, ◌||◌, List, [], ◌∷◌, ◌++◌, length, map, take, Option, Some, None, refl, sym, ap, subst, ◌∙◌, arith}
use Rattle.std.specs.Prelude.{slice_get, codes}
use Rattle.std.specs.Str.{bytes_eq}
use Rattle.std.specs.Cmp.Lexicographic.{bytes_decides}
use Rattle.std.proofs.lemmas.Option.{slice_get_within}
use Rattle.hdl_tree.specs.declared.tree.Pin.{Pin}
use Rattle.hdl_tree.specs.declared.library.Entry.{Entry}
use Rattle.hdl_tree.specs.declared.ends.End.{End}
use Rattle.hdl_tree.specs.declared.ends.End.TheVariants as ends
use Rattle.hdl_tree.specs.Writable.{is_among}
use Rattle.hdl_tree.specs.Chips.{Chips, end_of, find_chip, parts_of, pin_width}
use Rattle.hdl_tree.specs.Behaviour.{chip_at, width_in}
use Rattle.hdl_check.specs.declared.fault.NamedFault.{NamedFault}
use Rattle.hdl_check.specs.Faults.{pin_name, pin_fault, twice_fault}
use Rattle.hdl_check.specs.Locations.{AtPin, unless, IsFaultless}
use Rattle.name_table.specs.Names.{find_value}
use Rattle.hdl_check.specs.Tables.{BitOf, bits_of}
use Rattle.hdl_check.proofs.Telling.{output_fault}
use Rattle.hdl_plans.specs.Ways.{HasBit}
use Rattle.hdl_plans.proofs.Walks.{part_at}
use Rattle.hdl_flatten.specs.declared.flat.PinAt.{PinAt}
use Rattle.hdl_flatten.specs.declared.flat.PartAt.{PartAt}
use Rattle.hdl_flatten.specs.Ends.{named_pins, end_inputs, HasPins, EndsHavePins}
use Rattle.hdl_flatten.specs.Flat.{block_at, nodes_at, pin_at}
use Rattle.hdl_flatten.specs.Flat as flat
use Rattle.hdl_flatten.specs.Trees.{PartIn, all_bits}
use Rattle.hdl_elab.specs.declared.put.Elab.{Elab}
use Rattle.hdl_elab.specs.Elaborated.{IsElaborated}
use Rattle.hdl_elab.proofs.Behaves.{bit_is, bits_long, comes, pin_node}
use Rattle.hdl_elab.proofs.Trees.{Stands, one_tree}
use Rattle.hdl_behaviours.proofs.Traced.{IsFine}
use Rattle.hdl_elab.proofs.There.{at_within, bit_stands, joined, left_of, listed_at}
use Rattle.elab_laws.specs.Same.{SameBlock, SameOut, SamePin}
use Rattle.elab_laws.proofs.Drivers.{Input, IsDriven, StandsIn, fine, output_driven}

-- ---- the pins of ends

width_named : (pins : List Pin) (name : List ℕ) → width_in pins name ≡ find_value name (named_pins pins)
width_named [] name = refl
width_named (p ∷ ps) name = ap (λ (o : Option ℕ). cond (bytes_eq name p.name) (Some (pin_width p)) o) (width_named ps name)

pub end_bit : (chip : Entry) (e : End) (name : List ℕ) (width bit : ℕ) → HasPins chip e → find_value name (end_inputs e) ≡ Some width → bit < width → HasBit chip.chip.inputs name bit
end_bit chip e name width bit pins wide lt = record { width = width; there = width_named chip.chip.inputs name ∙ ap (find_value name) pins.inputs ∙ wide; below = lt }

-- the only pin
only_pin : (pins : List Pin) (name : List ℕ) (width : ℕ) → named_pins pins ≡ (name, width) ∷ [] → (k : ℕ) (p : Pin) → slice_get pins k ≡ Some p → width_in pins p.name ≡ Some (pin_width p)
only_pin [] name width is k p there = absurd cc
only_pin (q ∷ []) name width is (suc k) p there = absurd cc
only_pin (q ∷ r ∷ pins) name width is k p there =
    let f : suc (suc (length (named_pins pins))) ≡ 1 = ap length is in
    absurd (omega (arith, f))
only_pin (q ∷ []) name width is zero p there =
    let same : q ≡ p = cc in
    subst (λ (x : Pin). width_in (x ∷ []) p.name ≡ Some (pin_width p)) (sym same) (ap (λ (t : Bool). cond t (Some (pin_width p)) None) ((bytes_decides p.name p.name).1 refl))

end_outs : (chip : Entry) (e : End) → HasPins chip e → (k : ℕ) (p : Pin) → slice_get chip.chip.outputs k ≡ Some p → width_in chip.chip.outputs p.name ≡ Some (pin_width p)
end_outs chip ends.Nand pins k p there = only_pin chip.chip.outputs (codes "out") 1 pins.outputs k p there
end_outs chip ends.Dff pins k p there = only_pin chip.chip.outputs (codes "out") 1 pins.outputs k p there
end_outs chip ends.Keyboard pins k p there = only_pin chip.chip.outputs (codes "out") 16 pins.outputs k p there
end_outs chip ends.Rom pins k p there = only_pin chip.chip.outputs (codes "out") 16 pins.outputs k p there
end_outs chip (ends.Block bits) pins k p there = only_pin chip.chip.outputs (codes "out") 16 pins.outputs k p there

-- ---- the outputs of other chips have names of their own

or_right : (a b : Bool) → (a || b) ≡ false → b ≡ false
or_right true b h = absurd cc
or_right false b h = h

or_first : (a b : Bool) → (a || b) ≡ false → a ≡ false
or_first true b h = absurd cc
or_first false b h = refl

not_twice : (b : Bool) (t : NamedFault) → cond b (Some t) None ≡ None → b ≡ false
not_twice true t h = absurd cc
not_twice false t h = refl

behind : (name : List ℕ) (ins qs : List Pin) → is_among name (map pin_name (ins ++ qs)) ≡ false → is_among name (map pin_name qs) ≡ false
behind name [] qs h = h
behind name (p ∷ ins) qs h = behind name ins qs (or_right (bytes_eq name (pin_name p)) (is_among name (map pin_name (ins ++ qs))) h)

first_at : (outs : List Pin) (k : ℕ) (p : Pin) → slice_get outs k ≡ Some p → is_among p.name (map pin_name (take k outs)) ≡ false → width_in outs p.name ≡ Some (pin_width p)
first_at [] k p there new = absurd cc
first_at (q ∷ outs) zero p there new =
    let same : q ≡ p = cc in
    subst (λ (x : Pin). width_in (x ∷ outs) p.name ≡ Some (pin_width p)) (sym same) (ap (λ (t : Bool). cond t (Some (pin_width p)) (width_in outs p.name)) ((bytes_decides p.name p.name).1 refl))
first_at (q ∷ outs) (suc k) p there new =
    ap (λ (t : Bool). cond t (Some (pin_width q)) (width_in outs p.name)) (or_first (bytes_eq p.name q.name) (is_among p.name (map pin_name (take k outs))) new)
    ∙ first_at outs k p there (or_right (bytes_eq p.name q.name) (is_among p.name (map pin_name (take k outs))) new)

named_once : (chips : Chips) (names : List (List ℕ)) (chip : Entry) → IsFaultless chips names chip → end_of chips.memories chip ≡ None → (k : ℕ) (p : Pin) → slice_get chip.chip.outputs k ≡ Some p → width_in chip.chip.outputs p.name ≡ Some (pin_width p)
named_once chips names chip faultless no_end k p there =
    let ins = chip.chip.inputs in
    let outs = chip.chip.outputs in
    let right : pin_fault chip (length ins + k) ≡ None = sym (ap (λ (o : Option End). unless o (pin_fault chip (length ins + k))) no_end) ∙ faultless (AtPin (length ins + k)) in
    let twice : twice_fault chip.name (map pin_name (ins ++ take k outs)) (Some p) ≡ None = sym (output_fault chip k ∙ ap (twice_fault chip.name (map pin_name (ins ++ take k outs))) there) ∙ right in
    first_at outs k p there (behind p.name ins (take k outs) (not_twice (is_among p.name (map pin_name (ins ++ take k outs))) _ twice))

outputs_by : (chips : Chips) (chip : Entry) (o : Option End) → EndsHavePins chips → IsFine chips chip → end_of chips.memories chip ≡ o → (k : ℕ) (p : Pin) → slice_get chip.chip.outputs k ≡ Some p → width_in chip.chip.outputs p.name ≡ Some (pin_width p)
outputs_by chips chip None pins f is k p there = named_once chips f.names chip f.faultless is k p there
outputs_by chips chip (Some e) pins f is k p there = end_outs chip e (pins f.name chip e f.found is) k p there

-- ---- which bit it is

-- bit j of the bits of pins
pub record BitIn (pins : List Pin) (b : BitOf) : Type 0 where
  pub place : ℕ
  pub pin : Pin
  pub there : slice_get pins place ≡ Some pin
  pub named : b.name ≡ pin.name
  pub below : b.bit < pin_width pin

bit_in_by : (p : Pin) (pins : List Pin) (b : BitOf) → ((j : ℕ) → slice_get (all_bits pins) j ≡ Some b → BitIn pins b) → (j : ℕ) → (slice_get (bits_of p.name 0 (pin_width p)) j ≡ Some b) ⊎ Stands (all_bits pins) b → BitIn (p ∷ pins) b
bit_in_by p pins b go j (inl h) =
    let same = bit_is p.name 0 (pin_width p) j b h in
    let lt = slice_get_within (bits_of p.name 0 (pin_width p)) j b h in
    let long = bits_long p.name 0 (pin_width p) in
    let small : 0 + j < pin_width p = omega (arith, lt, long) in
    record { place = 0; pin = p; there = refl; named = ap (λ (x : BitOf). x.name) same; below = subst (λ (n : ℕ). n < pin_width p) (sym (ap (λ (x : BitOf). x.bit) same)) small }
bit_in_by p pins b go j (inr s) = let r = go s.k s.there in record { place = suc r.place; pin = r.pin; there = r.there; named = r.named; below = r.below }

pub bit_in : (pins : List Pin) (j : ℕ) (b : BitOf) → slice_get (all_bits pins) j ≡ Some b → BitIn pins b
bit_in [] j b e = absurd cc
bit_in (p ∷ pins) j b e = bit_in_by p pins b (λ i h. bit_in pins i b h) j (joined (bits_of p.name 0 (pin_width p)) (all_bits pins) j b e)

module _ (chips : Chips) (top_name : List ℕ) (top : Entry) (pins : EndsHavePins chips) (found : find_chip chips top_name ≡ Some top) (faultless : IsFaultless chips (top.name ∷ []) top) where
  pub out_driven : (path : List ℕ) (chip : Entry) → chip_at chips top path ≡ Some chip → (k : ℕ) (p : Pin) → slice_get chip.chip.outputs k ≡ Some p → (bit : ℕ) → bit < pin_width p → IsDriven chips top path p.name bit
  out_driven path chip at k p there bit lt =
      output_driven chips top_name top pins found faultless path chip at p.name bit
      (record { width = pin_width p; there = outputs_by chips chip (end_of chips.memories chip) pins (fine chips top_name top pins found faultless path chip at) refl k p there; below = lt })

  pub pin_driven : (k : ℕ) (p : Pin) (bit : ℕ) → bit < pin_width p → (slice_get top.chip.inputs k ≡ Some p) ⊎ Stands top.chip.outputs p → (b : BitOf) → slice_get (bits_of p.name 0 (pin_width p)) bit ≡ Some b → IsDriven chips top [] p.name bit
  pin_driven k p bit lt (inr s) b e = out_driven [] top refl s.k p s.there bit lt
  pin_driven k p bit lt (inl at) b e =
      let same = bit_is p.name 0 (pin_width p) bit b e in
      let zero_plus : 0 + bit ≡ bit = omega arith in
      let s = bit_stands top.chip.inputs k p at bit b e in
      record {
        d = Input p.name bit;
        is = record { k = s.k; at = b; there = s.there; name_is = ap (λ (x : BitOf). x.name) (sym same); bit_is = sym zero_plus ∙ ap (λ (x : BitOf). x.bit) (sym same) };
        joins = λ low high at wires. refl;
        same = λ net low high block at numbering. refl;
      }

  module _ (e e' : Elab) (is : IsElaborated chips top e) (is' : IsElaborated chips top e') where
    -- two nodes are those of one bit
    pub record OneBit (node node' : ℕ) : Type 0 where
      pub path : List ℕ
      pub name : List ℕ
      pub bit : ℕ
      pub driven : IsDriven chips top path name bit
      pub at : is.at path name bit ≡ node
      pub at' : is'.at path name bit ≡ node'

    pub one_pin : (k node node' : ℕ) → SamePin e e' k node node' → OneBit node node'
    one_pin k node node' s =
        let p = comes (pin_at (is.at [])) (top.chip.inputs ++ top.chip.outputs) e.pins k s.pin is.pins s.there in
        let p' = comes (pin_at (is'.at [])) (top.chip.inputs ++ top.chip.outputs) e'.pins k s.pin' is'.pins s.there' in
        let one : Some p.item ≡ Some p'.item = sym p.there ∙ p'.there in
        let same : p.item ≡ p'.item = cc in
        let here = ap (λ (x : PinAt). slice_get x.nodes s.bit) p.is ∙ s.here in
        let here' = ap (λ (x : Pin). slice_get (pin_at (is'.at []) x).nodes s.bit) same ∙ ap (λ (x : PinAt). slice_get x.nodes s.bit) p'.is ∙ s.here' in
        let b = comes (λ (x : BitOf). is.at [] x.name x.bit) (bits_of p.item.name 0 (pin_width p.item)) (pin_at (is.at []) p.item).nodes s.bit node refl here in
        let lt = slice_get_within (bits_of p.item.name 0 (pin_width p.item)) s.bit b.item b.there in
        let long = bits_long p.item.name 0 (pin_width p.item) in
        record {
          path = [];
          name = p.item.name;
          bit = s.bit;
          driven = pin_driven k p.item s.bit (omega (arith, lt, long)) (joined top.chip.inputs top.chip.outputs k p.item p.there) b.item b.there;
          at = pin_node (is.at []) p.item s.bit node here;
          at' = pin_node (is'.at []) p.item s.bit node' here';
        }

    -- two nodes are those of one input bit of the chip
    pub record OneInput (node node' : ℕ) : Type 0 where
      pub name : List ℕ
      pub bit : ℕ
      pub in_it : StandsIn (all_bits top.chip.inputs) name bit
      pub at : is.at [] name bit ≡ node
      pub at' : is'.at [] name bit ≡ node'

    pub one_input : (k node node' : ℕ) → k < length top.chip.inputs → SamePin e e' k node node' → OneInput node node'
    one_input k node node' less s =
        let p = comes (pin_at (is.at [])) (top.chip.inputs ++ top.chip.outputs) e.pins k s.pin is.pins s.there in
        let p' = comes (pin_at (is'.at [])) (top.chip.inputs ++ top.chip.outputs) e'.pins k s.pin' is'.pins s.there' in
        let one : Some p.item ≡ Some p'.item = sym p.there ∙ p'.there in
        let same : p.item ≡ p'.item = cc in
        let here = ap (λ (x : PinAt). slice_get x.nodes s.bit) p.is ∙ s.here in
        let here' = ap (λ (x : Pin). slice_get (pin_at (is'.at []) x).nodes s.bit) same ∙ ap (λ (x : PinAt). slice_get x.nodes s.bit) p'.is ∙ s.here' in
        let b = comes (λ (x : BitOf). is.at [] x.name x.bit) (bits_of p.item.name 0 (pin_width p.item)) (pin_at (is.at []) p.item).nodes s.bit node refl here in
        let b_is = bit_is p.item.name 0 (pin_width p.item) s.bit b.item b.there in
        let zero_plus : 0 + s.bit ≡ s.bit = omega arith in
        let at = left_of top.chip.inputs top.chip.outputs k p.item less p.there in
        let t = bit_stands top.chip.inputs k p.item at s.bit b.item b.there in
        record {
          name = p.item.name;
          bit = s.bit;
          in_it = record { k = t.k; at = b.item; there = t.there; name_is = ap (λ (x : BitOf). x.name) (sym b_is); bit_is = sym zero_plus ∙ ap (λ (x : BitOf). x.bit) (sym b_is) };
          at = pin_node (is.at []) p.item s.bit node here;
          at' = pin_node (is'.at []) p.item s.bit node' here';
        }

    -- part k of both
    record OnePart (k : ℕ) (part part' : PartAt) : Type 0 where
      item : PartIn
      at : chip_at chips top item.path ≡ Some item.chip
      is_it : flat.part_at chips is.at is.block item ≡ part
      is_it' : flat.part_at chips is'.at is'.block item ≡ part'

    one_part : (k : ℕ) (part part' : PartAt) → slice_get e.parts k ≡ Some part → slice_get e'.parts k ≡ Some part' → OnePart k part part'
    one_part k part part' there there' =
        let p = comes (flat.part_at chips is.at is.block) is.tree e.parts k part is.parts there in
        let p' = comes (flat.part_at chips is'.at is'.block) is'.tree e'.parts k part' is'.parts there' in
        let trees = one_tree chips top is.tree is'.tree is.listed is'.listed in
        let one : Some p.item ≡ Some p'.item = sym p.there ∙ ap (λ (t : List PartIn). slice_get t k) trees ∙ p'.there in
        let same : p.item ≡ p'.item = cc in
        record {
          item = p.item;
          at = at_within chips top p.item (listed_at chips 0 (parts_of chips top) is.tree is.listed k p.item p.there);
          is_it = p.is;
          is_it' = ap (flat.part_at chips is'.at is'.block) same ∙ p'.is;
        }

    pub one_out : (k node node' : ℕ) → SameOut e e' k node node' → OneBit node node'
    one_out k node node' s =
        let p = one_part k s.part s.part' s.there s.there' in
        let bits = all_bits p.item.chip.chip.outputs in
        let b = comes (λ (x : BitOf). is.at p.item.path x.name x.bit) bits (nodes_at (is.at p.item.path) bits) s.bit node refl (ap (λ (x : PartAt). slice_get x.outs s.bit) p.is_it ∙ s.here) in
        let b' = comes (λ (x : BitOf). is'.at p.item.path x.name x.bit) bits (nodes_at (is'.at p.item.path) bits) s.bit node' refl (ap (λ (x : PartAt). slice_get x.outs s.bit) p.is_it' ∙ s.here') in
        let one : Some b.item ≡ Some b'.item = sym b.there ∙ b'.there in
        let same : b.item ≡ b'.item = cc in
        let i = bit_in p.item.chip.chip.outputs s.bit b.item b.there in
        record {
          path = p.item.path;
          name = b.item.name;
          bit = b.item.bit;
          driven = subst (λ (n : List ℕ). IsDriven chips top p.item.path n b.item.bit) (sym i.named) (out_driven p.item.path p.item.chip p.at i.place i.pin i.there b.item.bit i.below);
          at = b.is;
          at' = ap (λ (x : BitOf). is'.at p.item.path x.name x.bit) same ∙ b'.is;
        }

    -- two blocks are those of one end
    pub record OneBlock (b b' : ℕ) : Type 0 where
      pub path : List ℕ
      pub name : List ℕ
      pub chip : Entry
      pub by_name : find_chip chips name ≡ Some chip
      pub there : chip_at chips top path ≡ Some chip
      pub its : block_at (end_of chips.memories chip) (is.block path) ≡ Some b
      pub its' : block_at (end_of chips.memories chip) (is'.block path) ≡ Some b'

    pub one_block : (b b' : ℕ) → SameBlock e e' b b' → OneBlock b b'
    one_block b b' s =
        let p = one_part s.k s.part s.part' s.there s.there' in
        let f = fine chips top_name top pins found faultless p.item.path p.item.chip p.at in
        record {
          path = p.item.path;
          name = f.name;
          chip = p.item.chip;
          by_name = f.found;
          there = p.at;
          its = ap (λ (x : PartAt). x.block) p.is_it ∙ s.here;
          its' = ap (λ (x : PartAt). x.block) p.is_it' ∙ s.here';
        }
