-- What drives each bit of a chip and of the parts in it: an output bit of an end, an input bit of the chip, or a constant. Wherever the chip is wired
-- the bit has the value of what drives it, so in each numbering its node.
use Rattle.std.proofs.Common.{◌≡◌, ℕ, zero, suc, ◌+◌, ◌-◌, ◌<◌, inl, inr, Bool, true, false, ◌&&◌, ◌||◌, nat_eq, List, [], ◌∷◌, ◌++◌, length, Option, Some, None, refl, sym, ap, subst, ◌∙◌}
use Rattle.std.specs.Prelude.{slice_get, is_some, codes}
use Rattle.std.specs.Str.{bytes_eq}
use Rattle.std.specs.Cmp.Lexicographic.{bytes_decides}
use Rattle.std.proofs.lemmas.Bool.Decides.{Decides-eqb}
use Rattle.hdl_tree.specs.declared.tree.Source.{Source}
use Rattle.hdl_tree.specs.declared.tree.Source.TheVariants as source
use Rattle.hdl_tree.specs.declared.tree.Part.{Part}
use Rattle.hdl_tree.specs.declared.library.Entry.{Entry}
use Rattle.hdl_tree.specs.declared.ends.End.{End}
use Rattle.hdl_tree.specs.declared.ends.End.TheVariants as ends
use Rattle.hdl_tree.specs.Chips.{Chips, end_of, find_chip, parts_of, parts_of_body, parts_unless, first, count}
use Rattle.hdl_tree.specs.Behaviour.{Wires, chip_at, chip_of, inner_chip, width_of, Joins, source_value, reaches, drives, some, PartWired, PartsWired, ChipWired}
use Rattle.netlist.specs.Net.{Net}
use Rattle.hdl_check.specs.Locations.{IsFaultless}
use Rattle.hdl_check.specs.Tables.{BitOf, is_in}
use Rattle.hdl_check.proofs.MarkLemmas.{both}
use Rattle.hdl_plans.specs.Plans.{is_input, IsSound}
use Rattle.hdl_plans.specs.Planned.{plan_of}
use Rattle.hdl_plans.specs.Loops.{IsJoint}
use Rattle.hdl_plans.specs.Ways.{HasBit}
use Rattle.hdl_plans.proofs.Walks.{at_part}
use Rattle.hdl_plans.proofs.Fits.{tree_fits}
use Rattle.hdl_plans.proofs.Nesting.{faultless_sound}
use Rattle.hdl_nodes.specs.Numbering.{EndStands, IsNumbering}
use Rattle.hdl_behaviours.specs.Reads.{out_bits}
use Rattle.hdl_behaviours.specs.Inner.Feeding.{backwards}
use Rattle.hdl_behaviours.proofs.Paths.{backwards-twice, chip_below, part_of_by}
use Rattle.hdl_behaviours.proofs.Loopless.{each_at}
use Rattle.hdl_behaviours.proofs.Sources.{Sourced, source_of}
use Rattle.hdl_behaviours.proofs.Traced.{around_of, IsFine, fine_at, apart_by, output_width, no_end_by, ReachedBy, reached_by, driven_by}
use Rattle.hdl_flatten.specs.Ends.{EndsHavePins}
use Rattle.hdl_flatten.specs.Trees.{all_bits, end_nodes}
use Rattle.hdl_flatten.proofs.Reading.{has_bit}
use Rattle.hdl_flatten.proofs.Ending.{has_ends}
use Rattle.hdl_elab.proofs.Ending.{out_alone}

-- ---- drivers

-- a bit that is one of these
pub record StandsIn (bits : List BitOf) (name : List ℕ) (bit : ℕ) : Type 0 where
  pub k : ℕ
  pub at : BitOf
  pub there : slice_get bits k ≡ Some at
  pub name_is : name ≡ at.name
  pub bit_is : bit ≡ at.bit

stands_by : (b : BitOf) (bs : List BitOf) (name : List ℕ) (bit : ℕ) (t : Bool) → (bytes_eq name b.name && nat_eq bit b.bit) ≡ t → (t || is_in name bit bs) ≡ true → (is_in name bit bs ≡ true → StandsIn bs name bit) → StandsIn (b ∷ bs) name bit
stands_by b bs name bit true e h go =
    let p = both (bytes_eq name b.name) (nat_eq bit b.bit) e in
    record { k = 0; at = b; there = refl; name_is = (bytes_decides name b.name).0 p.0; bit_is = (Decides-eqb bit b.bit).0 p.1 }
stands_by b bs name bit false e h go = let r = go h in record { k = suc r.k; at = r.at; there = r.there; name_is = r.name_is; bit_is = r.bit_is }

stands_in : (bits : List BitOf) (name : List ℕ) (bit : ℕ) → is_in name bit bits ≡ true → StandsIn bits name bit
stands_in [] name bit h = absurd cc
stands_in (b ∷ bs) name bit h = stands_by b bs name bit (bytes_eq name b.name && nat_eq bit b.bit) refl h (stands_in bs name bit)

-- a constant, an input bit of the chip, or an output bit of an end at a path
pub data Driver : Type 0 where
  Low : Driver
  High : Driver
  Input : (name : List ℕ) (bit : ℕ) → Driver
  Output : (path : List ℕ) (bit : ℕ) → Driver

-- an end at a path has this output bit
pub record HasOutput (chips : Chips) (top : Entry) (path : List ℕ) (bit : ℕ) : Type 0 where
  pub name : List ℕ
  pub chip : Entry
  pub e : End
  pub found : find_chip chips name ≡ Some chip
  pub there : chip_at chips top path ≡ Some chip
  pub is : end_of chips.memories chip ≡ Some e
  pub below : bit < end_nodes (Some e)

abbrev pub IsDriver : Chips → Entry → Driver → Type 0
IsDriver chips top Low = Unit {0}
IsDriver chips top High = Unit {0}
IsDriver chips top (Input name bit) = StandsIn (all_bits top.chip.inputs) name bit
IsDriver chips top (Output path bit) = HasOutput chips top path bit

-- its node in a numbering
abbrev pub node_of : ℕ → ℕ → (List ℕ → Wires ℕ) → Driver → ℕ
node_of low high at Low = low
node_of low high at High = high
node_of low high at (Input name bit) = at [] name bit
node_of low high at (Output path bit) = at path (codes "out") bit

-- each chip that is no end is wired
abbrev pub AreWired : Chips → Entry → ℕ → ℕ → (List ℕ → Wires ℕ) → Type 0
AreWired chips top low high at = (path : List ℕ) (chip : Entry) → chip_at chips top path ≡ Some chip → end_of chips.memories chip ≡ None → PartsWired low high chips chip (parts_of chips chip) (at path) (λ i. at (path ++ i ∷ []))

-- the bit has the value of what drives it wherever a chip is wired, so in each numbering its node
pub record IsDriven (chips : Chips) (top : Entry) (path name : List ℕ) (bit : ℕ) : Type 0 where
  pub d : Driver
  pub is : IsDriver chips top d
  pub joins : (low high : ℕ) (at : List ℕ → Wires ℕ) → AreWired chips top low high at → at path name bit ≡ node_of low high at d
  pub same : (net : Net) (low high : ℕ) (block : List ℕ → ℕ) (at : List ℕ → Wires ℕ) → IsNumbering net low high chips top block at → at path name bit ≡ node_of low high at d

out_nodes : (e : End) → out_bits e ≡ end_nodes (Some e)
out_nodes ends.Nand = refl
out_nodes ends.Dff = refl
out_nodes ends.Keyboard = refl
out_nodes ends.Rom = refl
out_nodes (ends.Block bits) = refl

record Nested (chips : Chips) (chip : Entry) : Type 0 where
  d : ℕ
  sound : IsSound d chips (plan_of chips) chip

nested_at : (chips : Chips) (d : ℕ) (top : Entry) (path : List ℕ) (chip : Entry) → IsSound d chips (plan_of chips) top → chip_at chips top path ≡ Some chip → Nested chips chip
nested_at chips zero top path chip s h = absurd s
nested_at chips (suc d) top [] chip s h = let same : top ≡ chip = cc in subst (Nested chips) same (record { d = suc d; sound = s })
nested_at chips (suc d) top (i ∷ path) chip s h = let a = at_part chips top i path chip h in nested_at chips d a.inner path chip (s.2 i a.inner a.found) a.rest

module _ (chips : Chips) (top_name : List ℕ) (top : Entry) (pins : EndsHavePins chips) (top_found : find_chip chips top_name ≡ Some top) (faultless : IsFaultless chips (top.name ∷ []) top) where
  pub fine : (path : List ℕ) (chip : Entry) → chip_at chips top path ≡ Some chip → IsFine chips chip
  fine path chip there = fine_at chips (top.name ∷ []) top_name top path chip top_found faultless there

  module _ (net : Net) (low high : ℕ) (block : List ℕ → ℕ) (at : List ℕ → Wires ℕ) (numbering : IsNumbering net low high chips top block at) where
    wired : AreWired chips top low high at
    wired path chip there no_end =
        subst (λ (ps : List Part). PartsWired low high chips chip ps (at path) (λ i. at (path ++ i ∷ []))) (sym (ap (λ (o : Option End). parts_unless o (parts_of_body chip.chip.body)) no_end))
        (subst (λ (o : Option End). ChipWired low high chips chip o (at path) (λ i. at (path ++ i ∷ [])) (λ e. EndStands net low (block path) e (at path))) no_end (numbering.wired path chip there))

    pub stands_at : (path : List ℕ) (chip : Entry) (e : End) → chip_at chips top path ≡ Some chip → end_of chips.memories chip ≡ Some e → EndStands net low (block path) e (at path)
    stands_at path chip e there is = subst (λ (o : Option End). ChipWired low high chips chip o (at path) (λ i. at (path ++ i ∷ [])) (λ e. EndStands net low (block path) e (at path))) is (numbering.wired path chip there)

  abbrev Driven : List ℕ → List ℕ → ℕ → Type 0
  Driven path name bit = IsDriven chips top path name bit

  -- where it is wired it has what drives it, so in each numbering
  pub driven_as : (path name : List ℕ) (bit : ℕ) (d : Driver) → IsDriver chips top d → ((low high : ℕ) (at : List ℕ → Wires ℕ) → AreWired chips top low high at → at path name bit ≡ node_of low high at d) → Driven path name bit
  driven_as path name bit d is joins = record { d = d; is = is; joins = joins; same = λ net low high block at numbering. joins low high at (wired net low high block at numbering) }

  -- a bit that has the value of another wherever the chip is wired has what drives that one
  via : (path name : List ℕ) (bit : ℕ) (q m : List ℕ) (k : ℕ) → ((low high : ℕ) (at : List ℕ → Wires ℕ) → AreWired chips top low high at → at path name bit ≡ at q m k) → Driven q m k → Driven path name bit
  via path name bit q m k joined g = driven_as path name bit g.d g.is (λ low high at w. joined low high at w ∙ g.joins low high at w)

  -- ---- outputs: down to an end

  -- a net or output of a chip that one of its parts drives
  net_driven : (path : List ℕ) (chip : Entry) → chip_at chips top path ≡ Some chip → (name : List ℕ) (bit : ℕ) → some (drives chips name bit) (parts_of chips chip) ≡ true → ((i : ℕ) (inner : Entry) → inner_chip chips chip i ≡ Some inner → (n : List ℕ) (k : ℕ) → HasBit inner.chip.outputs n k → Driven (path ++ i ∷ []) n k) → Driven path name bit
  net_driven path chip there name bit driven go =
      let x = driven_by chips (parts_of chips chip) name bit driven in
      let o = x.out in
      let f = o.from in
      let within_chip : inner_chip chips chip x.i ≡ Some x.inner = ap (chip_of chips) x.there ∙ x.found in
      let below : chip_at chips top (path ++ x.i ∷ []) ≡ Some x.inner = chip_below chips path top chip x.inner x.i there within_chip in
      let apart : is_input x.inner x.conn.pin.name ≡ false = apart_by chips x.inner (end_of chips.memories x.inner) (has_ends chips pins) (fine (path ++ x.i ∷ []) x.inner below) refl x.conn.pin.name o.width o.out in
      let within : f.k < count x.conn.pin.subscript (width_of x.inner x.conn.pin.name) = subst (λ (v : ℕ). f.k < count x.conn.pin.subscript v) (output_width x.inner x.conn.pin.name o.width apart o.out) f.within in
      let own : IsJoint chips chip [] x.i x.conn f.w f.k false = record { chip = chip; part = x.part; inner = x.inner; j = x.j; at = refl; there = x.there; found = x.found; here = x.here; right = f.right; way = apart; within = within } in
      let no_end = no_end_by chips chip x.i x.part (end_of chips.memories chip) refl x.there in
      via path name bit (path ++ x.i ∷ []) x.conn.pin.name (first x.conn.pin.subscript + f.k)
      (λ low high at wires.
      let w = wires path chip there no_end in
      let joined : at (path ++ x.i ∷ []) x.conn.pin.name (first x.conn.pin.subscript + f.k) ≡ at path name bit =
      each_at (Joins low high x.inner (at path) (at (path ++ x.i ∷ []))) x.part.connections x.j x.conn (w.part x.i x.part x.inner x.there x.found).joined x.here f.k within
      ∙ ap (λ (s : Source). source_value low high s (at path) f.k) f.right
      ∙ ap (λ (n : List ℕ). at path n (first f.w.subscript + f.k)) f.named ∙ ap (at path name) f.bit_is in
      sym joined)
      (go x.i x.inner within_chip x.conn.pin.name (first x.conn.pin.subscript + f.k) (tree_fits chips (top.name ∷ []) top faultless path chip there x.i x.conn f.w f.k false own))

  output_by : (path : List ℕ) (chip : Entry) (b : Bool) → chip_at chips top path ≡ Some chip → end_of chips.memories chip ≡ None → (name : List ℕ) (bit : ℕ) → HasBit chip.chip.outputs name bit → some (drives chips name bit) (parts_of chips chip) ≡ b → ((i : ℕ) (inner : Entry) → inner_chip chips chip i ≡ Some inner → (n : List ℕ) (k : ℕ) → HasBit inner.chip.outputs n k → Driven (path ++ i ∷ []) n k) → Driven path name bit
  output_by path chip true there is name bit has e go = net_driven path chip there name bit e go
  output_by path chip false there is name bit has e go = driven_as path name bit Low tt (λ low high at wires. (wires path chip there is).undriven name has.width bit has.there has.below e)

  output_of : (path : List ℕ) (chip : Entry) (o : Option End) → chip_at chips top path ≡ Some chip → end_of chips.memories chip ≡ o → (name : List ℕ) (bit : ℕ) → HasBit chip.chip.outputs name bit → ((i : ℕ) (inner : Entry) → inner_chip chips chip i ≡ Some inner → (n : List ℕ) (k : ℕ) → HasBit inner.chip.outputs n k → Driven (path ++ i ∷ []) n k) → Driven path name bit
  output_of path chip None there is name bit has go = output_by path chip (some (drives chips name bit) (parts_of chips chip)) there is name bit has refl go
  output_of path chip (Some e) there is name bit has go =
      let g = fine path chip there in
      let out = out_alone chips pins g.name chip e g.found is name bit has in
      driven_as path name bit (Output path bit)
      (record { name = g.name; chip = chip; e = e; found = g.found; there = there; is = is; below = subst (λ (n : ℕ). bit < n) (out_nodes e) out.1 })
      (λ low high at wires. ap (λ (n : List ℕ). at path n bit) out.0)

  output_in : (d : ℕ) (path : List ℕ) (chip : Entry) → IsSound d chips (plan_of chips) chip → chip_at chips top path ≡ Some chip → (name : List ℕ) (bit : ℕ) → HasBit chip.chip.outputs name bit → Driven path name bit
  output_in zero path chip sound there name bit has = absurd sound
  output_in (suc d) path chip sound there name bit has =
      output_of path chip (end_of chips.memories chip) there refl name bit has
      (λ i inner h n k has'. output_in d (path ++ i ∷ []) inner (sound.2 i inner h) (chip_below chips path top chip inner i there h) n k has')

  sound_at : (path : List ℕ) (chip : Entry) → chip_at chips top path ≡ Some chip → Nested chips chip
  sound_at path chip there = nested_at chips (length chips.entries) top path chip (faultless_sound chips top_name top (has_ends chips pins) top_found faultless) there

  -- an output bit of the chip, or of a part in it
  pub output_driven : (path : List ℕ) (chip : Entry) → chip_at chips top path ≡ Some chip → (name : List ℕ) (bit : ℕ) → HasBit chip.chip.outputs name bit → Driven path name bit
  output_driven path chip there name bit has = let n = sound_at path chip there in output_in n.d path chip n.sound there name bit has

  -- ---- inputs: up to what drives the net around

  sourced : (path : List ℕ) (chip : Entry) → chip_at chips top path ≡ Some chip → (name : List ℕ) (bit : ℕ) → Sourced chips chip name bit → (HasBit chip.chip.inputs name bit → Driven path name bit) → Driven path name bit
  sourced path chip there name bit (inl has) go = go has
  sourced path chip there name bit (inr driven) go =
      net_driven path chip there name bit driven (λ i inner h n k has. output_driven (path ++ i ∷ []) inner (chip_below chips path top chip inner i there h) n k has)

  module _ (r : List ℕ) (i : ℕ) (name : List ℕ) (bit : ℕ) (around inner : Entry) (part : Part) (there : chip_at chips top (backwards r) ≡ Some around) (here : slice_get (parts_of chips around) i ≡ Some part) (found : find_chip chips part.chip ≡ Some inner) (has : HasBit inner.chip.inputs name bit) (go : (n : List ℕ) (k : ℕ) → HasBit around.chip.inputs n k → Driven (backwards r) n k) where
    no_end : end_of chips.memories around ≡ None
    no_end = no_end_by chips around i part (end_of chips.memories around) refl here

    part_wired : (low high : ℕ) (at : List ℕ → Wires ℕ) → AreWired chips top low high at → PartWired low high inner part (at (backwards r)) (at (backwards r ++ i ∷ []))
    part_wired low high at wires = (wires (backwards r) around there no_end).part i part inner here found

    module _ (x : ReachedBy inner part.connections name bit) where
      joined : (low high : ℕ) (at : List ℕ → Wires ℕ) → AreWired chips top low high at → (s : Source) → x.conn.source ≡ s → at (backwards r ++ i ∷ []) name bit ≡ source_value low high s (at (backwards r)) x.k
      joined low high at wires s right =
          sym (ap (λ (n : List ℕ). at (backwards r ++ i ∷ []) n (first x.conn.pin.subscript + x.k)) x.named ∙ ap (at (backwards r ++ i ∷ []) name) x.bit_is)
          ∙ each_at (Joins low high inner (at (backwards r)) (at (backwards r ++ i ∷ []))) part.connections x.j x.conn (part_wired low high at wires).joined x.here x.k x.within
          ∙ ap (λ (s : Source). source_value low high s (at (backwards r)) x.k) right

      way : is_input inner x.conn.pin.name ≡ true
      way = ap (is_input inner) x.named ∙ ap is_some has.there

      fed_from : (s : Source) → x.conn.source ≡ s → Driven (backwards r ++ i ∷ []) name bit
      fed_from (source.Constant true) right = driven_as (backwards r ++ i ∷ []) name bit High tt (λ low high at wires. joined low high at wires (source.Constant true) right)
      fed_from (source.Constant false) right = driven_as (backwards r ++ i ∷ []) name bit Low tt (λ low high at wires. joined low high at wires (source.Constant false) right)
      fed_from (source.Net w) right =
          let f = fine (backwards r) around there in
          via (backwards r ++ i ∷ []) name bit (backwards r) w.name (first w.subscript + x.k) (λ low high at wires. joined low high at wires (source.Net w) right)
          (sourced (backwards r) around there w.name (first w.subscript + x.k) (source_of chips f.names around f.faultless i x.j x.k part inner x.conn w here found x.here way right x.within) (go w.name (first w.subscript + x.k)))

    fed_by_part : (b : Bool) → some (reaches inner name bit) part.connections ≡ b → Driven (backwards r ++ i ∷ []) name bit
    fed_by_part false e = driven_as (backwards r ++ i ∷ []) name bit Low tt (λ low high at wires. (part_wired low high at wires).unjoined name has.width bit has.there has.below e)
    fed_by_part true e = let x = reached_by inner part.connections name bit e in fed_from x x.conn.source refl

  input_in : (r : List ℕ) (chip : Entry) → chip_at chips top (backwards r) ≡ Some chip → (name : List ℕ) (bit : ℕ) → HasBit chip.chip.inputs name bit → Driven (backwards r) name bit
  input_in [] chip there name bit has =
      let same : chip ≡ top = cc in
      let own : HasBit top.chip.inputs name bit = subst (λ (x : Entry). HasBit x.chip.inputs name bit) same has in
      driven_as [] name bit (Input name bit) (stands_in (all_bits top.chip.inputs) name bit (has_bit top.chip.inputs name own.width bit own.there own.below)) (λ low high at wires. refl)
  input_in (i ∷ r) chip there name bit has =
      let a = around_of chips top (backwards r) i chip there in
      let p = part_of_by chips a.around i chip (slice_get (parts_of chips a.around) i) refl a.found in
      fed_by_part r i name bit a.around chip p.part a.at p.there p.found has (λ n k h. input_in r a.around a.at n k h) (some (reaches chip name bit) p.part.connections) refl

  -- an input bit of the chip, or of a part in it
  pub input_driven : (path : List ℕ) (chip : Entry) → chip_at chips top path ≡ Some chip → (name : List ℕ) (bit : ℕ) → HasBit chip.chip.inputs name bit → Driven path name bit
  input_driven path chip there name bit has =
      let twice : backwards (backwards path) ≡ path = backwards-twice path in
      subst (λ (p : List ℕ). Driven p name bit) twice (input_in (backwards path) chip (ap (chip_at chips top) twice ∙ there) name bit has)
