-- Two devices that are one: a text means the same in both, is set in both alike, and is seen alike.
use Rattle.std.proofs.Common.{◌≡◌, ◌⊎◌, ◌+◌, ◌<◌, ◌≤◌, ℕ, zero, suc, Bool, true, false, cond, List, [], ◌∷◌, ◌++◌, length, map, take, drop, Option, Some, None, refl, sym, ap, ap₂, subst, ◌∙◌, inl, inr, arith}
use Rattle.std.specs.Prelude.{slice_get, slice_index, codes, not, MatchOption, ◌&&◌}
use Rattle.std.specs.Option.{option_map}
use Rattle.std.specs.Str.{bytes_eq}
use Rattle.std.specs.Cmp.Lexicographic.{bytes_decides}
use Rattle.std.proofs.lemmas.Option.{slice_get-map}
use Rattle.word16.specs.Words.{has_bit}
use Rattle.hdl_tree.specs.declared.tree.Pin.{Pin}
use Rattle.hdl_tree.specs.declared.library.Entry.{Entry}
use Rattle.hdl_tree.specs.declared.ends.End.{End}
use Rattle.hdl_tree.specs.declared.ends.End.TheVariants as ends
use Rattle.hdl_tree.specs.declared.ends.Memories.{Memories}
use Rattle.hdl_tree.specs.Memory.{number}
use Rattle.hdl_tree.specs.Behaviour.{Wires}
use Rattle.hdl_tree.specs.Chips.{Chips, end_of, find_entry, pin_width}
use Rattle.hdl_tree.specs.Writable.{all, body_can, is_letter, is_name_byte, name_can, pin_can, width_can, is_among, reserved_names}
use Rattle.hdl_check.specs.Tables.{BitOf, bits_of}
use Rattle.hdl_check.specs.Whole.{chips_in}
use Rattle.netlist.specs.declared.node.Block.{Block}
use Rattle.netlist.specs.Net.{Net}
use Rattle.netlist.specs.Value.{spelled_number}
use Rattle.netlist.specs.Histories.{rank}
use Rattle.gate_sim.specs.Calls.{Call, cycle_of, evaluated_calls}
use Rattle.gate_sim.specs.Calls.Call.{Load, Set, Eval, Tick, Tock}
use Rattle.gate_sim.specs.Values.{AreValues, words_of}
use Rattle.hdl_nodes.proofs.Numbers.{number_same}
use Rattle.hdl_flatten.specs.declared.flat.PartAt.{PartAt}
use Rattle.hdl_flatten.specs.Flat.{block_at, pin_at}
use Rattle.hdl_flatten.specs.Flat as flat
use Rattle.hdl_flatten.specs.Trees.{PartIn, all_bits}
use Rattle.hdl_elab.proofs.Trees.{one_tree}
use Rattle.elab_laws.specs.Same.{SameBlock, SameCalls, SameOut, SamePin, ShowSame, none, load, set, eval, tick, tock}
use Rattle.elab_laws.proofs.Bits.{one_block}
use Rattle.elab_laws.proofs.Same.{shown_same}
use Rattle.elab_laws.proofs.Values.{both_blocks, cycles, ticks}
use Rattle.script_columns.specs.declared.layout.Value.TheVariants.{Time, Wide}
use Rattle.script_device.specs.declared.directory.PinNodes.{PinNodes}
use Rattle.script_device.specs.declared.directory.PartNodes.{PartNodes}
use Rattle.script_device.specs.Directory.{HasBlock, HasOut, LoadedChip, part_named, pin_named}
use Rattle.script_device.specs.Variables as chips
use Rattle.script_device.specs.Variables.{HasNumber}
use Rattle.script_device.specs.Variables.Source.{BlockWord, Nodes}
use Rattle.script_device.specs.Driven.{Sees, bus_value, set_nodes, set_source, time_after, value_seen}
use Rattle.script_device.specs.Devices.{CanSet, Denotes, Source}
use Rattle.script_device.specs.Inner.Brackets.{HasBrackets}
use Rattle.script_device.proofs.Bracketed.{once}
use Rattle.script_device.proofs.Found.{number_has, word_of, one_block as block_once}
use Rattle.tst_runner.specs.Directories.{first_part, out_among, out_of, part_nodes, pin_nodes}
use Rattle.script_laws.proofs.Chips.{OneChip}

-- ---- lists

abbrev pub Each2 : (ℕ → ℕ → Type 0) → List ℕ → List ℕ → Type 0
Each2 R [] [] = Unit {0}
Each2 R [] (y ∷ ys) = ⊥
Each2 R (x ∷ xs) [] = ⊥
Each2 R (x ∷ xs) (y ∷ ys) = R x y × Each2 R xs ys

each2_by : (R : ℕ → ℕ → Type 0) (xs ys : List ℕ) → length xs ≡ length ys → ((j x y : ℕ) → slice_get xs j ≡ Some x → slice_get ys j ≡ Some y → R x y) → Each2 R xs ys
each2_by R [] [] long h = tt
each2_by R [] (y ∷ ys) long h = absurd (omega (arith, long))
each2_by R (x ∷ xs) [] long h = absurd (omega (arith, long))
each2_by R (x ∷ xs) (y ∷ ys) long h = (h 0 x y refl refl, each2_by R xs ys (omega (arith, long)) (λ j a b p q. h (suc j) a b p q))

each2_long : (R : ℕ → ℕ → Type 0) (xs ys : List ℕ) → Each2 R xs ys → length xs ≡ length ys
each2_long R [] [] h = refl
each2_long R [] (y ∷ ys) h = absurd h
each2_long R (x ∷ xs) [] h = absurd h
each2_long R (x ∷ xs) (y ∷ ys) h = ap suc (each2_long R xs ys h.1)

each2_at : (R : ℕ → ℕ → Type 0) (xs ys : List ℕ) → Each2 R xs ys → (k : ℕ) → k < length xs → R (slice_index xs k) (slice_index ys k)
each2_at R [] ys h k lt = absurd (omega (arith, lt))
each2_at R (x ∷ xs) [] h k lt = absurd h
each2_at R (x ∷ xs) (y ∷ ys) h zero lt = h.0
each2_at R (x ∷ xs) (y ∷ ys) h (suc k) lt = each2_at R xs ys h.1 k (omega (arith, lt))

each2_weaker : (R Q : ℕ → ℕ → Type 0) → ((x y : ℕ) → R x y → Q x y) → (xs ys : List ℕ) → Each2 R xs ys → Each2 Q xs ys
each2_weaker R Q w [] [] h = tt
each2_weaker R Q w [] (y ∷ ys) h = absurd h
each2_weaker R Q w (x ∷ xs) [] h = absurd h
each2_weaker R Q w (x ∷ xs) (y ∷ ys) h = (w x y h.0, each2_weaker R Q w xs ys h.1)

spelled_each : (R : ℕ → ℕ → Type 0) (row row' : ℕ → Bool) (xs ys : List ℕ) → Each2 R xs ys → ((x y : ℕ) → R x y → row x ≡ row' y) → spelled_number row xs ≡ spelled_number row' ys
spelled_each R row row' xs ys h same =
    number_same (length xs) (λ k. row (slice_index xs k)) (λ k. row' (slice_index ys k)) (λ k lt. same (slice_index xs k) (slice_index ys k) (each2_at R xs ys h k lt))
    ∙ ap (λ (n : ℕ). number n (λ k. row' (slice_index ys k))) (each2_long R xs ys h)

long_map : {X Y : Type 0} (f : X → Y) (xs : List X) → length (map f xs) ≡ length xs
long_map f [] = refl
long_map f (x ∷ xs) = ap suc (long_map f xs)

take_map : {X Y : Type 0} (f : X → Y) (xs ys : List X) → take (length xs) (map f (xs ++ ys)) ≡ map f xs
take_map f [] ys = refl
take_map f (x ∷ xs) ys = ap (λ l. f x ∷ l) (take_map f xs ys)

map_split : {X Y : Type 0} (f : X → Y) (n : ℕ) (xs : List X) → map f (take n xs) ++ map f (drop n xs) ≡ map f xs
map_split f zero xs = refl
map_split f (suc n) [] = refl
map_split f (suc n) (x ∷ xs) = ap (λ l. f x ∷ l) (map_split f n xs)

take_get : (w : ℕ) (xs : List ℕ) (j n : ℕ) → slice_get (take w xs) j ≡ Some n → slice_get xs j ≡ Some n
take_get zero xs j n h = absurd cc
take_get (suc w) [] j n h = absurd cc
take_get (suc w) (x ∷ xs) zero n h = h
take_get (suc w) (x ∷ xs) (suc j) n h = take_get w xs j n h

drop_get : (w : ℕ) (xs : List ℕ) (j n : ℕ) → slice_get (drop w xs) j ≡ Some n → slice_get xs (w + j) ≡ Some n
drop_get zero xs j n h = let z : 0 + j ≡ j = omega arith in subst (λ i. slice_get xs i ≡ Some n) (sym z) h
drop_get (suc w) [] j n h = absurd cc
drop_get (suc w) (x ∷ xs) j n h = let z : suc w + j ≡ suc (w + j) = omega arith in subst (λ i. slice_get (x ∷ xs) i ≡ Some n) (sym z) (drop_get w xs j n h)

take_long : (w : ℕ) (xs ys : List ℕ) → length xs ≡ length ys → length (take w xs) ≡ length (take w ys)
take_long zero xs ys long = refl
take_long (suc w) [] [] long = refl
take_long (suc w) [] (y ∷ ys) long = absurd (omega (arith, long))
take_long (suc w) (x ∷ xs) [] long = absurd (omega (arith, long))
take_long (suc w) (x ∷ xs) (y ∷ ys) long = ap suc (take_long w xs ys (omega (arith, long)))

drop_long : (w : ℕ) (xs ys : List ℕ) → length xs ≡ length ys → length (drop w xs) ≡ length (drop w ys)
drop_long zero xs ys long = long
drop_long (suc w) [] [] long = refl
drop_long (suc w) [] (y ∷ ys) long = absurd (omega (arith, long))
drop_long (suc w) (x ∷ xs) [] long = absurd (omega (arith, long))
drop_long (suc w) (x ∷ xs) (y ∷ ys) long = drop_long w xs ys (omega (arith, long))

-- ---- names have no bracket

and_left : (a b : Bool) → (a && b) ≡ true → a ≡ true
and_left true b h = refl
and_left false b h = absurd cc

and_right : (a b : Bool) → (a && b) ≡ true → b ≡ true
and_right true b h = h
and_right false b h = absurd cc

bytes_no : (xs rest : List ℕ) → all is_name_byte (xs ++ 91 ∷ rest) ≡ true → ⊥
bytes_no [] rest h = let no : false ≡ true = h in absurd cc
bytes_no (x ∷ xs) rest h = bytes_no xs rest (and_right (is_name_byte x) (all is_name_byte (xs ++ 91 ∷ rest)) h)

no_bracket : (name rest : List ℕ) → name_can (name ++ 91 ∷ rest) ≡ true → ⊥
no_bracket [] rest h = let no : false ≡ true = h in absurd cc
no_bracket (x ∷ name) rest h =
    let more = not (is_among (x ∷ (name ++ 91 ∷ rest)) reserved_names) in
    bytes_no name rest (and_left (all is_name_byte (name ++ 91 ∷ rest)) more (and_right (is_letter x) (all is_name_byte (name ++ 91 ∷ rest) && more) h))

pins_can : (pins : List Pin) (k : ℕ) (p : Pin) → all pin_can pins ≡ true → slice_get pins k ≡ Some p → name_can p.name ≡ true
pins_can [] k p h there = absurd cc
pins_can (q ∷ pins) zero p h there =
    let same : q ≡ p = cc in
    subst (λ (x : Pin). name_can x.name ≡ true) same (and_left (name_can q.name) (width_can q.width) (and_left (pin_can q) (all pin_can pins) h))
pins_can (q ∷ pins) (suc k) p h there = pins_can pins k p (and_right (pin_can q) (all pin_can pins) h) there

all_both : (xs ys : List Pin) → all pin_can xs ≡ true → all pin_can ys ≡ true → all pin_can (xs ++ ys) ≡ true
all_both [] ys h k = k
all_both (x ∷ xs) ys h k = by (pin_can x) h (λ g. all_both xs ys g k)
  where
    by : (b : Bool) → (b && all pin_can xs) ≡ true → (all pin_can xs ≡ true → all pin_can (xs ++ ys) ≡ true) → (b && all pin_can (xs ++ ys)) ≡ true
    by true g go = go g
    by false g go = absurd cc

-- ---- pins by name

record PinFound (ds : List Pin) (at at' : Wires ℕ) (text ns : List ℕ) : Type 0 where
  k : ℕ
  d : Pin
  there : slice_get ds k ≡ Some d
  named : d.name ≡ text
  is : (pin_at at d).nodes ≡ ns
  other : pin_named (map pin_nodes (map (pin_at at') ds)) text ≡ Some (pin_at at' d).nodes

pin_found : (ds : List Pin) (at at' : Wires ℕ) (text ns : List ℕ) → pin_named (map pin_nodes (map (pin_at at) ds)) text ≡ Some ns → PinFound ds at at' text ns
pin_found [] at at' text ns h = absurd cc
pin_found (d ∷ ds) at at' text ns h = by (bytes_eq d.name text) refl h (pin_found ds at at' text ns)
  where
    by : (b : Bool) → bytes_eq d.name text ≡ b → cond b (Some (pin_at at d).nodes) (pin_named (map pin_nodes (map (pin_at at) ds)) text) ≡ Some ns → (pin_named (map pin_nodes (map (pin_at at) ds)) text ≡ Some ns → PinFound ds at at' text ns) → PinFound (d ∷ ds) at at' text ns
    by true e g go =
        record {
          k = 0;
          d = d;
          there = refl;
          named = (bytes_decides d.name text).0 e;
          is = cc;
          other = ap (λ (t : Bool). cond t (Some (pin_at at' d).nodes) (pin_named (map pin_nodes (map (pin_at at') ds)) text)) e;
        }
    by false e g go =
        let r = go g in
        record {
          k = suc r.k;
          d = r.d;
          there = r.there;
          named = r.named;
          is = r.is;
          other = ap (λ (t : Bool). cond t (Some (pin_at at' d).nodes) (pin_named (map pin_nodes (map (pin_at at') ds)) text)) e ∙ r.other;
        }

-- ---- outs of parts

record OutFound (outputs : List Pin) (xs xs' ys : List ℕ) : Type 0 where
  from : ℕ
  ys' : List ℕ
  other : out_among outputs xs' ≡ Some ys'
  at : (j n : ℕ) → slice_get ys j ≡ Some n → slice_get xs (from + j) ≡ Some n
  at' : (j n : ℕ) → slice_get ys' j ≡ Some n → slice_get xs' (from + j) ≡ Some n
  long : length ys ≡ length ys'

zero_plus : (xs : List ℕ) (j n : ℕ) → slice_get xs j ≡ Some n → slice_get xs (0 + j) ≡ Some n
zero_plus xs j n h = let z : 0 + j ≡ j = omega arith in subst (λ i. slice_get xs i ≡ Some n) (sym z) h

plus_plus : (xs : List ℕ) (a b j n : ℕ) → slice_get xs (a + (b + j)) ≡ Some n → slice_get xs ((a + b) + j) ≡ Some n
plus_plus xs a b j n h = let z : a + (b + j) ≡ (a + b) + j = omega arith in subst (λ i. slice_get xs i ≡ Some n) z h

out_found : (outputs : List Pin) (xs xs' ys : List ℕ) → length xs ≡ length xs' → out_among outputs xs ≡ Some ys → OutFound outputs xs xs' ys
out_found [] xs xs' ys long h = absurd cc
out_found (pin ∷ pins) xs xs' ys long h = by (bytes_eq pin.name (codes "out")) refl h (out_found pins (drop (pin_width pin) xs) (drop (pin_width pin) xs') ys (drop_long (pin_width pin) xs xs' long))
  where
    by : (b : Bool) → bytes_eq pin.name (codes "out") ≡ b → cond b (Some (take (pin_width pin) xs)) (out_among pins (drop (pin_width pin) xs)) ≡ Some ys → (out_among pins (drop (pin_width pin) xs) ≡ Some ys → OutFound pins (drop (pin_width pin) xs) (drop (pin_width pin) xs') ys) → OutFound (pin ∷ pins) xs xs' ys
    by true e g go =
        let same : take (pin_width pin) xs ≡ ys = cc in
        record {
          from = 0;
          ys' = take (pin_width pin) xs';
          other = ap (λ (t : Bool). cond t (Some (take (pin_width pin) xs')) (out_among pins (drop (pin_width pin) xs'))) e;
          at = λ j n k. zero_plus xs j n (take_get (pin_width pin) xs j n (subst (λ (l : List ℕ). slice_get l j ≡ Some n) (sym same) k));
          at' = λ j n k. zero_plus xs' j n (take_get (pin_width pin) xs' j n k);
          long = subst (λ (l : List ℕ). length l ≡ length (take (pin_width pin) xs')) same (take_long (pin_width pin) xs xs' long);
        }
    by false e g go =
        let r = go g in
        record {
          from = pin_width pin + r.from;
          ys' = r.ys';
          other = ap (λ (t : Bool). cond t (Some (take (pin_width pin) xs')) (out_among pins (drop (pin_width pin) xs'))) e ∙ r.other;
          at = λ j n k. plus_plus xs (pin_width pin) r.from j n (drop_get (pin_width pin) xs (r.from + j) n (r.at j n k));
          at' = λ j n k. plus_plus xs' (pin_width pin) r.from j n (drop_get (pin_width pin) xs' (r.from + j) n (r.at' j n k));
          long = r.long;
        }

-- ---- parts by name

module _ (chips : Chips) (entries : List Entry) (at at' : List ℕ → Wires ℕ) (block block' : List ℕ → ℕ) where
  record PartFound (tree : List PartIn) (name : List ℕ) (part : PartNodes) : Type 0 where
    k : ℕ
    item : PartIn
    there : slice_get tree k ≡ Some item
    is : part_nodes entries (flat.part_at chips at block item) ≡ part
    other : first_part entries (map (flat.part_at chips at' block') tree) name ≡ Some (part_nodes entries (flat.part_at chips at' block' item))

  part_found : (tree : List PartIn) (name : List ℕ) (part : PartNodes) → first_part entries (map (flat.part_at chips at block) tree) name ≡ Some part → PartFound tree name part
  part_found [] name part h = absurd cc
  part_found (p ∷ tree) name part h = by (bytes_eq p.chip.name name) refl h (part_found tree name part)
    where
      by : (b : Bool) → bytes_eq p.chip.name name ≡ b → cond b (Some (part_nodes entries (flat.part_at chips at block p))) (first_part entries (map (flat.part_at chips at block) tree) name) ≡ Some part → (first_part entries (map (flat.part_at chips at block) tree) name ≡ Some part → PartFound tree name part) → PartFound (p ∷ tree) name part
      by true e g go =
          record {
            k = 0;
            item = p;
            there = refl;
            is = cc;
            other = ap (λ (t : Bool). cond t (Some (part_nodes entries (flat.part_at chips at' block' p))) (first_part entries (map (flat.part_at chips at' block') tree) name)) e;
          }
      by false e g go =
          let r = go g in
          record {
            k = suc r.k;
            item = r.item;
            there = r.there;
            is = r.is;
            other = ap (λ (t : Bool). cond t (Some (part_nodes entries (flat.part_at chips at' block' p))) (first_part entries (map (flat.part_at chips at' block') tree) name)) e ∙ r.other;
          }

block_some : (o : Option End) (x y b : ℕ) → block_at o x ≡ Some b → block_at o y ≡ Some y
block_some None x y b h = absurd cc
block_some (Some ends.Nand) x y b h = absurd cc
block_some (Some ends.Dff) x y b h = absurd cc
block_some (Some ends.Keyboard) x y b h = absurd cc
block_some (Some ends.Rom) x y b h = refl
block_some (Some (ends.Block bits)) x y b h = refl

-- ---- two elaborations of one chip

module _ (memories : Memories) (c c' : LoadedChip) (o : OneChip memories c c') where
  abbrev C : Chips
  C = chips_in o.entries memories

  abbrev ins : List Pin
  ins = o.top.chip.inputs

  abbrev outs : List Pin
  outs = o.top.chip.outputs

  abbrev at : List ℕ → Wires ℕ
  at = o.is.at

  abbrev at' : List ℕ → Wires ℕ
  at' = o.is'.at

  abbrev pub SameNode : ℕ → ℕ → Type 0
  SameNode x y = (k : ℕ) × (SamePin o.e o.e' k x y ⊎ SameOut o.e o.e' k x y)

  abbrev pub SameInput : ℕ → ℕ → Type 0
  SameInput x y = (k : ℕ) × (k < length ins) × SamePin o.e o.e' k x y

  abbrev pub SameSource : chips.Source → chips.Source → Type 0
  SameSource (Nodes xs) (Nodes ys) = Each2 SameNode xs ys
  SameSource (Nodes xs) (BlockWord b a) = ⊥
  SameSource (BlockWord b a) (Nodes xs) = ⊥
  SameSource (BlockWord b a) (BlockWord b' a') = SameBlock o.e o.e' b b' × (a ≡ a')

  abbrev pub SameSet : chips.Source → chips.Source → Type 0
  SameSet (Nodes xs) (Nodes ys) = Each2 SameInput xs ys
  SameSet (Nodes xs) (BlockWord b a) = ⊥
  SameSet (BlockWord b a) (Nodes xs) = ⊥
  SameSet (BlockWord b a) (BlockWord b' a') = SameBlock o.e o.e' b b' × (a ≡ a')

  inputs_are : c.directory.inputs ≡ map pin_nodes (map (pin_at (at [])) ins)
  inputs_are = o.directory.inputs ∙ ap (map pin_nodes) (ap (take (length ins)) o.is.pins ∙ take_map (pin_at (at [])) ins outs)

  inputs_are' : c'.directory.inputs ≡ map pin_nodes (map (pin_at (at' [])) ins)
  inputs_are' = o.directory'.inputs ∙ ap (map pin_nodes) (ap (take (length ins)) o.is'.pins ∙ take_map (pin_at (at' [])) ins outs)

  pins_are : c.directory.inputs ++ c.directory.outputs ≡ map pin_nodes (map (pin_at (at [])) (ins ++ outs))
  pins_are = ap₂ (λ (x y : List PinNodes). x ++ y) o.directory.inputs o.directory.outputs ∙ map_split pin_nodes (length ins) o.e.pins ∙ ap (map pin_nodes) o.is.pins

  pins_are' : c'.directory.inputs ++ c'.directory.outputs ≡ map pin_nodes (map (pin_at (at' [])) (ins ++ outs))
  pins_are' = ap₂ (λ (x y : List PinNodes). x ++ y) o.directory'.inputs o.directory'.outputs ∙ map_split pin_nodes (length ins) o.e'.pins ∙ ap (map pin_nodes) o.is'.pins

  -- the nodes of a pin
  pin_bits : (k : ℕ) (d : Pin) → slice_get (ins ++ outs) k ≡ Some d → Each2 (SamePin o.e o.e' k) (pin_at (at []) d).nodes (pin_at (at' []) d).nodes
  pin_bits k d there =
      let bits = bits_of d.name 0 (pin_width d) in
      let here : slice_get o.e.pins k ≡ Some (pin_at (at []) d) = ap (λ l. slice_get l k) o.is.pins ∙ slice_get-map (pin_at (at [])) (ins ++ outs) k ∙ ap (option_map (pin_at (at []))) there in
      let here' : slice_get o.e'.pins k ≡ Some (pin_at (at' []) d) = ap (λ l. slice_get l k) o.is'.pins ∙ slice_get-map (pin_at (at' [])) (ins ++ outs) k ∙ ap (option_map (pin_at (at' []))) there in
      each2_by (SamePin o.e o.e' k) (pin_at (at []) d).nodes (pin_at (at' []) d).nodes
      (long_map (λ (b : BitOf). at [] b.name b.bit) bits ∙ sym (long_map (λ (b : BitOf). at' [] b.name b.bit) bits))
      (λ j x y p q. record { pin = pin_at (at []) d; pin' = pin_at (at' []) d; bit = j; there = here; there' = here'; here = p; here' = q })

  -- a pin of the chip in both
  record PinMoved (text xs : List ℕ) : Type 0 where
    k : ℕ
    d : Pin
    there : slice_get (ins ++ outs) k ≡ Some d
    named : d.name ≡ text
    ys : List ℕ
    other : pin_named (c'.directory.inputs ++ c'.directory.outputs) text ≡ Some ys
    same : Each2 SameNode xs ys

  pin_moved : (text xs : List ℕ) → pin_named (c.directory.inputs ++ c.directory.outputs) text ≡ Some xs → PinMoved text xs
  pin_moved text xs h =
      let f = pin_found (ins ++ outs) (at []) (at' []) text xs (ap (λ l. pin_named l text) (sym pins_are) ∙ h) in
      let w = each2_weaker (SamePin o.e o.e' f.k) SameNode (λ x y p. (f.k, inl p)) (pin_at (at []) f.d).nodes (pin_at (at' []) f.d).nodes (pin_bits f.k f.d f.there) in
      record {
        k = f.k;
        d = f.d;
        there = f.there;
        named = f.named;
        ys = (pin_at (at' []) f.d).nodes;
        other = ap (λ l. pin_named l text) pins_are' ∙ f.other;
        same = subst (λ (l : List ℕ). Each2 SameNode l (pin_at (at' []) f.d).nodes) f.is w;
      }

  left_at : (xs ys : List Pin) (k : ℕ) (d : Pin) → slice_get xs k ≡ Some d → (slice_get (xs ++ ys) k ≡ Some d) × (k < length xs)
  left_at [] ys k d h = absurd cc
  left_at (x ∷ xs) ys zero d h = (h, omega arith)
  left_at (x ∷ xs) ys (suc k) d h = let r = left_at xs ys k d h in let lt = r.1 in (r.0, omega (arith, lt))

  -- an input of the chip in both
  record InputMoved (text xs : List ℕ) : Type 0 where
    ys : List ℕ
    other : pin_named c'.directory.inputs text ≡ Some ys
    same : Each2 SameInput xs ys

  input_moved : (text xs : List ℕ) → pin_named c.directory.inputs text ≡ Some xs → InputMoved text xs
  input_moved text xs h =
      let f = pin_found ins (at []) (at' []) text xs (ap (λ l. pin_named l text) (sym inputs_are) ∙ h) in
      let l = left_at ins outs f.k f.d f.there in
      let w = each2_weaker (SamePin o.e o.e' f.k) SameInput (λ x y p. (f.k, l.1, p)) (pin_at (at []) f.d).nodes (pin_at (at' []) f.d).nodes (pin_bits f.k f.d l.0) in
      record {
        ys = (pin_at (at' []) f.d).nodes;
        other = ap (λ l. pin_named l text) inputs_are' ∙ f.other;
        same = subst (λ (l : List ℕ). Each2 SameInput l (pin_at (at' []) f.d).nodes) f.is w;
      }

  -- ---- parts

  abbrev P : PartIn → PartAt
  P = flat.part_at C at o.is.block

  abbrev P' : PartIn → PartAt
  P' = flat.part_at C at' o.is'.block

  abbrev Found : List ℕ → PartNodes → Type 0
  Found name part = PartFound C o.entries at at' o.is.block o.is'.block o.is.tree name part

  parts_of : (name : List ℕ) (part : PartNodes) → part_named c.directory.parts name ≡ Some part → Found name part
  parts_of name part h =
      part_found C o.entries at at' o.is.block o.is'.block o.is.tree name part
      (sym (ap (λ l. first_part o.entries l name) o.is.parts) ∙ sym (o.directory.parts name) ∙ h)

  parts_are' : o.e'.parts ≡ map P' o.is.tree
  parts_are' = o.is'.parts ∙ ap (map P') (one_tree C o.top o.is'.tree o.is.tree o.is'.listed o.is.listed)

  named' : (name : List ℕ) (part : PartNodes) (f : Found name part) → part_named c'.directory.parts name ≡ Some (part_nodes o.entries (P' f.item))
  named' name part f = o.directory'.parts name ∙ ap (λ l. first_part o.entries l name) parts_are' ∙ f.other

  part_here : (name : List ℕ) (part : PartNodes) (f : Found name part) → slice_get o.e.parts f.k ≡ Some (P f.item)
  part_here name part f = ap (λ l. slice_get l f.k) o.is.parts ∙ slice_get-map P o.is.tree f.k ∙ ap (option_map P) f.there

  part_here' : (name : List ℕ) (part : PartNodes) (f : Found name part) → slice_get o.e'.parts f.k ≡ Some (P' f.item)
  part_here' name part f = ap (λ l. slice_get l f.k) parts_are' ∙ slice_get-map P' o.is.tree f.k ∙ ap (option_map P') f.there

  record OutMoved (name xs : List ℕ) : Type 0 where
    ys : List ℕ
    other : HasOut c'.directory name ys
    same : Each2 SameNode xs ys

  out_by : (name xs : List ℕ) (part : PartNodes) (f : Found name part) (entry : Option Entry) → find_entry o.entries (P f.item).chip ≡ entry → out_of entry (P f.item).outs ≡ Some xs → OutMoved name xs
  out_by name xs part f None found h = absurd cc
  out_by name xs part f (Some entry) found h =
      let bits = all_bits f.item.chip.chip.outputs in
      let r = out_found entry.chip.outputs (P f.item).outs (P' f.item).outs xs (long_map (λ (b : BitOf). at f.item.path b.name b.bit) bits ∙ sym (long_map (λ (b : BitOf). at' f.item.path b.name b.bit) bits)) h in
      record {
        ys = r.ys';
        other = (part_nodes o.entries (P' f.item), named' name part f, ap (λ e. out_of e (P' f.item).outs) found ∙ r.other);
        same = each2_by SameNode xs r.ys' r.long
            (λ j x y p q. (f.k, inr (record { part = P f.item; part' = P' f.item; bit = r.from + j; there = part_here name part f; there' = part_here' name part f; here = r.at j x p; here' = r.at' j y q })));
      }

  out_moved : (name xs : List ℕ) → HasOut c.directory name xs → OutMoved name xs
  out_moved name xs (part, named, out) =
      let f = parts_of name part named in
      out_by name xs part f (find_entry o.entries (P f.item).chip) refl (ap (λ (x : PartNodes). x.out) f.is ∙ out)

  pub record BlockMoved (name : List ℕ) (b : ℕ) : Type 0 where
    pub b' : ℕ
    pub other : HasBlock c'.directory name b'
    pub same : SameBlock o.e o.e' b b'

  pub block_moved : (name : List ℕ) (b : ℕ) → HasBlock c.directory name b → BlockMoved name b
  block_moved name b (part, named, block) =
      let f = parts_of name part named in
      let here : block_at (end_of C.memories f.item.chip) (o.is.block f.item.path) ≡ Some b = ap (λ (x : PartNodes). x.block) f.is ∙ block in
      let here' = block_some (end_of C.memories f.item.chip) (o.is.block f.item.path) (o.is'.block f.item.path) b here in
      record {
        b' = o.is'.block f.item.path;
        other = (part_nodes o.entries (P' f.item), named' name part f, here');
        same = record { k = f.k; part = P f.item; part' = P' f.item; there = part_here name part f; there' = part_here' name part f; here = here; here' = here' };
      }

  -- the blocks of one part have as many words
  pub size_moved : (Q : ℕ → Type 0) (b b' : ℕ) → SameBlock o.e o.e' b b' → MatchOption (slice_get c.net.blocks b) ⊥ (λ (x : Block). Q x.words) → MatchOption (slice_get c'.net.blocks b') ⊥ (λ (x : Block). Q x.words)
  size_moved Q b b' s h =
      let x = both_blocks C o.name o.top o.ends o.found o.no_fault o.e o.e' o.is o.is' b b' (one_block C o.name o.top o.ends o.found o.no_fault o.e o.e' o.is o.is' b b' s) in
      let there : slice_get c.net.blocks b ≡ Some x.block = ap (λ (n : Net). slice_get n.blocks b) o.net ∙ x.there in
      let there' : slice_get c'.net.blocks b' ≡ Some x.block' = ap (λ (n : Net). slice_get n.blocks b') o.net' ∙ x.there' in
      let q : Q x.block.words = subst (λ (m : Option Block). MatchOption m ⊥ (λ (x : Block). Q x.words)) there h in
      subst (λ (m : Option Block). MatchOption m ⊥ (λ (x : Block). Q x.words)) (sym there') (subst Q x.alike.words q)

  -- ---- what a text means

  pub record MeansMoved (text : List ℕ) (s : chips.Source) : Type 0 where
    pub s' : chips.Source
    pub other : chips.Denotes c' text s'
    pub same : SameSource s s'

  means_by : (text xs : List ℕ) → (pin_named (c.directory.inputs ++ c.directory.outputs) text ≡ Some xs) ⊎ ((name : List ℕ) × (text ≡ name ++ codes "[]") × HasOut c.directory name xs) → MeansMoved text (Nodes xs)
  means_by text xs (inl h) = let r = pin_moved text xs h in record { s' = Nodes r.ys; other = inl r.other; same = r.same }
  means_by text xs (inr (name, is, h)) = let r = out_moved name xs h in record { s' = Nodes r.ys; other = inr (name, is, r.other); same = r.same }

  word_by : (text : List ℕ) (b a : ℕ) → chips.Denotes c text (BlockWord b a) → MeansMoved text (BlockWord b a)
  word_by text b a (name, numbered, has, word) =
      let r = block_moved name b has in
      record { s' = BlockWord r.b' a; other = (name, numbered, r.other, size_moved (λ n. a < n) b r.b' r.same word); same = (r.same, refl) }

  pub means_moved : (text : List ℕ) (s : chips.Source) → chips.Denotes c text s → MeansMoved text s
  means_moved text (Nodes xs) h = means_by text xs h
  means_moved text (BlockWord b a) h = word_by text b a h

  pub record SetMoved (text : List ℕ) (s : chips.Source) : Type 0 where
    pub s' : chips.Source
    pub other : chips.CanSet c' text s'
    pub same : SameSet s s'

  pub set_moved : (text : List ℕ) (s : chips.Source) → chips.CanSet c text s → SetMoved text s
  set_moved text (Nodes xs) h = let r = input_moved text xs h in record { s' = Nodes r.ys; other = r.other; same = r.same }
  set_moved text (BlockWord b a) (name, numbered, has, word) =
      let r = block_moved name b has in
      record { s' = BlockWord r.b' a; other = (name, numbered, r.other, size_moved (λ n. a < n) b r.b' r.same word); same = (r.same, refl) }

  -- ---- in one chip a text means one thing

  plain : (text xs : List ℕ) → pin_named (c.directory.inputs ++ c.directory.outputs) text ≡ Some xs → (name rest : List ℕ) → text ≡ name ++ 91 ∷ rest → ⊥
  plain text xs h name rest is =
      let r = pin_moved text xs h in
      let can = and_right (name_can o.top.chip.name) (all pin_can ins && (all pin_can outs && body_can o.top.chip.body)) o.can in
      let all_can = all_both ins outs (and_left (all pin_can ins) (all pin_can outs && body_can o.top.chip.body) can) (and_left (all pin_can outs) (body_can o.top.chip.body) (and_right (all pin_can ins) (all pin_can outs && body_can o.top.chip.body) can)) in
      no_bracket name rest (subst (λ (t : List ℕ). name_can t ≡ true) (r.named ∙ is) (pins_can (ins ++ outs) r.k r.d all_can r.there))

  empty_has : (text name : List ℕ) → text ≡ name ++ codes "[]" → HasBrackets text name []
  empty_has text name e = record { digits = λ k x h. absurd (omega (arith, h)); is = e }

  outs_once : (name xs ys : List ℕ) → HasOut c.directory name xs → HasOut c.directory name ys → xs ≡ ys
  outs_once name xs ys (part, named, out) (part', named', out') =
      let one : Some part ≡ Some part' = sym named ∙ named' in
      let same : part ≡ part' = cc in
      let two : Some xs ≡ Some ys = sym out ∙ ap (λ (x : PartNodes). x.out) same ∙ out' in
      cc

  nodes_once : (text xs ys : List ℕ) → chips.Denotes c text (Nodes xs) → chips.Denotes c text (Nodes ys) → xs ≡ ys
  nodes_once text xs ys (inl h) (inl k) = let one : Some xs ≡ Some ys = sym h ∙ k in cc
  nodes_once text xs ys (inl h) (inr (name, is, out)) = absurd (plain text xs h name (93 ∷ []) is)
  nodes_once text xs ys (inr (name, is, out)) (inl k) = absurd (plain text ys k name (93 ∷ []) is)
  nodes_once text xs ys (inr (name, is, out)) (inr (name', is', out')) =
      let n = once text name [] name' [] (empty_has text name is) (empty_has text name' is') in
      outs_once name xs ys out (subst (λ (x : List ℕ). HasOut c.directory x ys) (sym n.0) out')

  no_word : (text xs : List ℕ) (b a : ℕ) → chips.Denotes c text (Nodes xs) → chips.Denotes c text (BlockWord b a) → ⊥
  no_word text xs b a (inl h) (name, numbered, has, word) = plain text xs h name (numbered.written ++ 93 ∷ []) numbered.is
  no_word text xs b a (inr (name, is, out)) (name', numbered, has, word) =
      let n = once text name [] name' numbered.written (empty_has text name is) (number_has text name' a numbered) in
      let some : 0 < length numbered.written = numbered.some in
      let bad : 0 < 0 = subst (λ (l : List ℕ). 0 < length l) (sym n.1) some in
      absurd (omega (arith, bad))

  words_once : (text : List ℕ) (b a b' a' : ℕ) → chips.Denotes c text (BlockWord b a) → chips.Denotes c text (BlockWord b' a') → BlockWord b a ≡ BlockWord b' a'
  words_once text b a b' a' h k =
      let n : HasNumber text h.0 a = h.1 in
      let w = word_of c.net c.directory text h.0 n.written b' a' (number_has text h.0 a n) k in
      let one : b ≡ b' = block_once c.directory h.0 b b' h.2 w.block in
      let two : a ≡ a' = n.number ∙ sym w.number in
      ap₂ (λ (x y : ℕ). BlockWord x y) one two

  pub means_once : (text : List ℕ) (s t : chips.Source) → chips.Denotes c text s → chips.Denotes c text t → s ≡ t
  means_once text (Nodes xs) (Nodes ys) h k = ap Nodes (nodes_once text xs ys h k)
  means_once text (Nodes xs) (BlockWord b a) h k = absurd (no_word text xs b a h k)
  means_once text (BlockWord b a) (Nodes ys) h k = absurd (no_word text ys b a k h)
  means_once text (BlockWord b a) (BlockWord b' a') h k = words_once text b a b' a' h k

  -- an input is a pin
  first_pin : (xs ys : List PinNodes) (text ns : List ℕ) → pin_named xs text ≡ Some ns → pin_named (xs ++ ys) text ≡ Some ns
  first_pin [] ys text ns h = absurd cc
  first_pin (x ∷ xs) ys text ns h = by (bytes_eq x.name text) h (first_pin xs ys text ns)
    where
      by : (b : Bool) → cond b (Some x.nodes) (pin_named xs text) ≡ Some ns → (pin_named xs text ≡ Some ns → pin_named (xs ++ ys) text ≡ Some ns) → cond b (Some x.nodes) (pin_named (xs ++ ys) text) ≡ Some ns
      by true e go = e
      by false e go = go e

  set_means : (text : List ℕ) (s : chips.Source) → chips.CanSet c text s → chips.Denotes c text s
  set_means text (Nodes xs) h = inl (first_pin c.directory.inputs c.directory.outputs text xs h)
  set_means text (BlockWord b a) h = h

  pub set_once : (text : List ℕ) (s t : chips.Source) → chips.CanSet c text s → chips.CanSet c text t → s ≡ t
  set_once text s t h k = means_once text s t (set_means text s h) (set_means text t k)

  -- ---- calls

  abbrev pub Calls : List Call → List Call → Type 0
  Calls calls calls' = SameCalls o.top o.e o.e' calls calls'

  nodes_set : (k word : ℕ) (xs ys : List ℕ) (calls calls' : List Call) → Each2 SameInput xs ys → Calls calls calls' → Calls (set_nodes o.e.net.nodes k word xs calls) (set_nodes o.e'.net.nodes k word ys calls')
  nodes_set k word [] [] calls calls' h same = same
  nodes_set k word [] (y ∷ ys) calls calls' h same = absurd h
  nodes_set k word (x ∷ xs) [] calls calls' h same = absurd h
  nodes_set k word (x ∷ xs) (y ∷ ys) calls calls' h same =
      nodes_set (suc k) word xs ys (Set (rank o.e.net.nodes x) (has_bit word k) ∷ calls) (Set (rank o.e'.net.nodes y) (has_bit word k) ∷ calls') h.1 (set {k = h.0.0} h.0.1 h.0.2 same)

  set_both : (s s' : chips.Source) (word : ℕ) (calls calls' : List Call) → SameSet s s' → Calls calls calls' → Calls (set_source o.e.net.nodes s word calls) (set_source o.e'.net.nodes s' word calls')
  set_both (Nodes xs) (Nodes ys) word calls calls' h same = nodes_set 0 word xs ys calls calls' h same
  set_both (Nodes xs) (BlockWord b a) word calls calls' h same = absurd h
  set_both (BlockWord b a) (Nodes ys) word calls calls' h same = absurd h
  set_both (BlockWord b a) (BlockWord b' a') word calls calls' h same =
      subst (λ (x : ℕ). Calls (Load b a (word ∷ []) ∷ calls) (Load b' x (word ∷ []) ∷ calls')) h.1 (load {from = a} {words = word ∷ []} h.0 same)

  pub source_set : (s s' : chips.Source) (word : ℕ) (calls calls' : List Call) → SameSet s s' → Calls calls calls' → Calls (set_source c.net.nodes s word calls) (set_source c'.net.nodes s' word calls')
  source_set s s' word calls calls' h same =
      subst (λ (n : Net). Calls (set_source n.nodes s word calls) (set_source c'.net.nodes s' word calls')) (sym o.net)
      (subst (λ (n : Net). Calls (set_source o.e.net.nodes s word calls) (set_source n.nodes s' word calls')) (sym o.net') (set_both s s' word calls calls' h same))

  evaluated_same : (calls calls' told told' : List Call) → Calls calls calls' → evaluated_calls calls ≡ Some told → evaluated_calls calls' ≡ Some told' → Calls told told'
  evaluated_same calls calls' told told' none h k = absurd cc
  evaluated_same calls calls' told told' (load {calls = cs} {calls' = cs'} b rest) h k = evaluated_same cs cs' told told' rest h k
  evaluated_same calls calls' told told' (set {calls = cs} {calls' = cs'} lt p rest) h k = evaluated_same cs cs' told told' rest h k
  evaluated_same calls calls' told told' (eval {calls = cs} {calls' = cs'} rest) h k =
      let p : Eval ∷ cs ≡ told = cc in
      let q : Eval ∷ cs' ≡ told' = cc in
      subst (λ (x : List Call). Calls x told') p (subst (λ (x : List Call). Calls (Eval ∷ cs) x) q (eval rest))
  evaluated_same calls calls' told told' (tick {calls = cs} {calls' = cs'} rest) h k =
      let p : Tick ∷ cs ≡ told = cc in
      let q : Tick ∷ cs' ≡ told' = cc in
      subst (λ (x : List Call). Calls x told') p (subst (λ (x : List Call). Calls (Tick ∷ cs) x) q (tick rest))
  evaluated_same calls calls' told told' (tock {calls = cs} {calls' = cs'} rest) h k =
      let p : Tock ∷ cs ≡ told = cc in
      let q : Tock ∷ cs' ≡ told' = cc in
      subst (λ (x : List Call). Calls x told') p (subst (λ (x : List Call). Calls (Tock ∷ cs) x) q (tock rest))

  evaluated_cycle : (calls told : List Call) → evaluated_calls calls ≡ Some told → cycle_of calls ≤ cycle_of told
  evaluated_cycle [] told h = absurd cc
  evaluated_cycle (Load b f ws ∷ calls) told h = evaluated_cycle calls told h
  evaluated_cycle (Set n b ∷ calls) told h = evaluated_cycle calls told h
  evaluated_cycle (Eval ∷ calls) told h = let p : Eval ∷ calls ≡ told = cc in subst (λ (x : List Call). cycle_of (Eval ∷ calls) ≤ cycle_of x) p (omega arith)
  evaluated_cycle (Tick ∷ calls) told h = let p : Tick ∷ calls ≡ told = cc in subst (λ (x : List Call). cycle_of (Tick ∷ calls) ≤ cycle_of x) p (omega arith)
  evaluated_cycle (Tock ∷ calls) told h = let p : Tock ∷ calls ≡ told = cc in subst (λ (x : List Call). cycle_of (Tock ∷ calls) ≤ cycle_of x) p (omega arith)

  pub times_same : (calls calls' : List Call) → Calls calls calls' → time_after calls ≡ time_after calls'
  times_same calls calls' same =
      ap₂ (λ (n : ℕ) (t : Bool). Time n t) (cycles C o.name o.top o.ends o.found o.no_fault o.e o.e' o.is o.is' calls calls' same) (ticks C o.name o.top o.ends o.found o.no_fault o.e o.e' o.is o.is' calls calls' same)

  module _ (calls calls' told told' : List Call) (v v' : ℕ → ℕ → Bool) (same : Calls calls calls') (sees : Sees c calls told v) (sees' : Sees c' calls' told' v') where
    told_same : Calls told told'
    told_same = evaluated_same calls calls' told told' same sees.last sees'.last

    shows : ShowSame o.top o.e o.e' told told' v v'
    shows =
        shown_same C o.name o.top o.e o.e' o.ends o.found o.no_fault o.is o.is' o.ordered told told' v v' told_same
        (subst (λ (n : Net). AreValues n told v) o.net sees.values) (subst (λ (n : Net). AreValues n told' v') o.net' sees'.values)

    node_shows : (x y : ℕ) → SameNode x y → v x (cycle_of told) ≡ v' y (cycle_of told')
    node_shows x y (k, inl p) = shows.pins k x y (cycle_of told) p (omega arith) ∙ ap (v' y) (cycles C o.name o.top o.ends o.found o.no_fault o.e o.e' o.is o.is' told told' told_same)
    node_shows x y (k, inr p) = shows.outs k x y (cycle_of told) p (omega arith) ∙ ap (v' y) (cycles C o.name o.top o.ends o.found o.no_fault o.e o.e' o.is o.is' told told' told_same)

    pub seen_same : (s s' : chips.Source) → SameSource s s' → value_seen c calls told v s ≡ value_seen c' calls' told' v' s'
    seen_same (Nodes xs) (Nodes ys) h =
        ap₂ (λ (n w : ℕ). bus_value n w) (each2_long SameNode xs ys h) (spelled_each SameNode (λ i. v i (cycle_of told)) (λ i. v' i (cycle_of told')) xs ys h (λ x y p. node_shows x y p))
    seen_same (Nodes xs) (BlockWord b a) h = absurd h
    seen_same (BlockWord b a) (Nodes ys) h = absurd h
    seen_same (BlockWord b a) (BlockWord b' a') h =
        ap (λ (n : Net). Wide (words_of n.blocks v calls b a)) o.net
        ∙ ap Wide (shows.words calls calls' same (evaluated_cycle calls told sees.last) b b' a h.0)
        ∙ ap (λ (x : ℕ). Wide (words_of o.e'.net.blocks v' calls' b' x)) h.1
        ∙ sym (ap (λ (n : Net). Wide (words_of n.blocks v' calls' b' a')) o.net')
