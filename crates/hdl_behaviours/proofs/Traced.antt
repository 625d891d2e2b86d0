-- Nodes that read each other in a circle are outputs of ends. From each of them bits are traced back to the next, so that there is a way as long as
-- one likes.
use Rattle.std.proofs.Common.{◌≡◌, ℕ, zero, suc, ◌+◌, ◌-◌, ◌<◌, ◌≤◌, ◌⊎◌, inl, inr, Bool, true, false, ◌&&◌, List, [], ◌∷◌, ◌++◌, length, Option, Some, None, refl, sym, ap, subst, ◌∙◌, arith, nat_eq}
use Rattle.std.specs.Prelude.{slice_get, slice_index, is_some, nat_le, codes, if◌then◌else◌}
use Rattle.std.specs.Str.{bytes_eq}
use Rattle.std.specs.Cmp.Lexicographic.{bytes_decides}
use Rattle.std.proofs.lemmas.Bool.Decides.{Decides-eqb, leb_tells}
use Rattle.hdl_tree.specs.declared.tree.Selection.{Selection}
use Rattle.hdl_tree.specs.declared.tree.Source.{Source}
use Rattle.hdl_tree.specs.declared.tree.Source.TheVariants as source
use Rattle.hdl_tree.specs.declared.tree.Connection.{Connection}
use Rattle.hdl_tree.specs.declared.tree.Part.{Part}
use Rattle.hdl_tree.specs.declared.library.Entry.{Entry}
use Rattle.hdl_tree.specs.declared.ends.End.{End}
use Rattle.hdl_tree.specs.declared.ends.End.TheVariants as ends
use Rattle.hdl_tree.specs.Chips.{Chips, end_of, find_chip, parts_of, parts_of_body, parts_unless, first, count}
use Rattle.hdl_tree.specs.Behaviour.{Wires, chip_at, chip_of, inner_chip, width_in, width_of, Joins, source_value, reaches, drives, drives_bits, some, PartWired, PartsWired, ChipWired}
use Rattle.netlist.specs.declared.node.Node.{Node}
use Rattle.netlist.specs.declared.node.Node.TheVariants as nodes
use Rattle.netlist.specs.declared.node.Block.{Block}
use Rattle.netlist.specs.Net.{Net}
use Rattle.net_order.specs.Reads.{address_in, reads_of, reads_by, Reads, IsCircle}
use Rattle.hdl_check.specs.Locations.{IsFaultless}
use Rattle.hdl_plans.specs.Plans.{is_input, IsSound}
use Rattle.hdl_plans.specs.Planned.{HasEnds, plan_of}
use Rattle.hdl_plans.specs.Loops.{BitAt, bit_at, IsJoint, outside_bit, inside_bit, reaches_out, Feeds, down, up, through}
use Rattle.hdl_plans.specs.Ways.{Way, HasBit}
use Rattle.hdl_plans.proofs.Walks.{at_part, part_at, one_step, join_ways}
use Rattle.hdl_plans.proofs.Sound.{as_port, found_ports, port_is}
use Rattle.hdl_plans.proofs.Fits.{tree_fits}
use Rattle.hdl_plans.proofs.Nesting.{inner_by, faultless_sound}
use Rattle.hdl_plans.proofs.Unjoined.{output_is_no_input, drives_conn, drives_in}
use Rattle.name_table.specs.Names.{first_of}
use Rattle.hdl_nodes.specs.Numbering.{nodes_of, EndStands, IsNumbering}
use Rattle.hdl_nodes.proofs.Numbers.{at_row, row_length}
use Rattle.hdl_behaviours.specs.Loopless.{IsWide, AreWide}
use Rattle.hdl_behaviours.specs.Reads.{out_bits, HaveOutAlone, IsOutput, AreOutputs, ArePins, HasLoop, ReadsLaw}
use Rattle.hdl_behaviours.specs.Inner.Feeding.{backwards, tree_bits, Among}
use Rattle.hdl_behaviours.proofs.Paths.{backwards-twice, chip_below, part_of_by, joint_among}
use Rattle.hdl_behaviours.proofs.Pigeons.{AllAmong, Linked, loop_in}
use Rattle.hdl_behaviours.proofs.Loopless.{each_at}
use Rattle.hdl_behaviours.proofs.Sources.{item_of, Sourced, source_of}

-- ---- small facts

and_both : (a b : Bool) → (a && b) ≡ true → (a ≡ true) × (b ≡ true)
and_both true b h = (refl, h)
and_both false b h = absurd cc

le_by : (a b : ℕ) → nat_le a b ≡ true → a ≤ b
le_by a b h = by (leb_tells a b)
  where
    by : ((nat_le a b ≡ true) × (a ≤ b)) ⊎ ((nat_le a b ≡ false) × (b < a)) → a ≤ b
    by (inl k) = k.1
    by (inr k) = let f : true ≡ false = sym h ∙ k.0 in absurd cc

below_length : {X : Type 0} (xs : List X) (k : ℕ) (x : X) → slice_get xs k ≡ Some x → k < length xs
below_length [] k x e = absurd cc
below_length (y ∷ ys) zero x e = omega arith
below_length (y ∷ ys) (suc k) x e = let h = below_length ys k x e in omega (arith, h)

got : (xs : List ℕ) (k : ℕ) → k < length xs → slice_get xs k ≡ Some (slice_index xs k)
got [] k lt = absurd (omega arith)
got (x ∷ xs) zero lt = refl
got (x ∷ xs) (suc k) lt = got xs k (omega arith)

one_of_two : (i j at x : ℕ) → slice_get (i ∷ j ∷ []) at ≡ Some x → (i ≡ x) ⊎ (j ≡ x)
one_of_two i j zero x e = inl cc
one_of_two i j (suc zero) x e = inr cc
one_of_two i j (suc (suc at)) x e = absurd cc

node_of : (f : ℕ → ℕ) (n k x : ℕ) → slice_get (nodes_of n f) k ≡ Some x → (k < n) × (f k ≡ x)
node_of f n k x e =
    let long = row_length f n 0 in
    let lt = below_length (nodes_of n f) k x e in
    let less : k < n = omega arith in
    let plus : 0 + k ≡ k = omega arith in
    let same : Some (f k) ≡ Some x = ap (λ (v : ℕ). Some v) (sym (at_row f n 0 k less ∙ ap f plus)) ∙ sym (got (nodes_of n f) k lt) ∙ e in
    (less, cc)

-- ---- chips of a tree

pub record Around (chips : Chips) (top : Entry) (path : List ℕ) (i : ℕ) (chip : Entry) : Type 0 where
  pub around : Entry
  pub at : chip_at chips top path ≡ Some around
  pub found : inner_chip chips around i ≡ Some chip

pub around_of : (chips : Chips) (top : Entry) (path : List ℕ) (i : ℕ) (chip : Entry) → chip_at chips top (path ++ i ∷ []) ≡ Some chip → Around chips top path i chip
around_of chips top [] i chip h =
    let a = at_part chips top i [] chip h in
    let rest = a.rest in
    let same : a.inner ≡ chip = cc in
    record { around = top; at = refl; found = a.found ∙ ap (λ (x : Entry). Some x) same }
around_of chips top (j ∷ path) i chip h =
    let a = at_part chips top j (path ++ i ∷ []) chip h in
    let r = around_of chips a.inner path i chip a.rest in
    record { around = r.around; at = part_at chips top j path a.inner r.around a.found r.at; found = r.found }

pub record IsFine (chips : Chips) (chip : Entry) : Type 0 where
  pub names : List (List ℕ)
  pub name : List ℕ
  pub found : find_chip chips name ≡ Some chip
  pub faultless : IsFaultless chips names chip

pub fine_at : (chips : Chips) (names : List (List ℕ)) (name : List ℕ) (top : Entry) (path : List ℕ) (chip : Entry) → find_chip chips name ≡ Some top → IsFaultless chips names top → chip_at chips top path ≡ Some chip → IsFine chips chip
fine_at chips names name top [] chip found faultless h = let same : top ≡ chip = cc in subst (IsFine chips) same (record { names = names; name = name; found = found; faultless = faultless })
fine_at chips names name top (i ∷ path) chip found faultless h =
    let a = at_part chips top i path chip h in
    let n = inner_by chips names top i a.inner (slice_get (parts_of chips top) i) refl a.found faultless in
    fine_at chips (a.inner.name ∷ names) n.name a.inner path chip n.there n.faultless a.rest

pub apart_by : (chips : Chips) (chip : Entry) (o : Option End) → HasEnds chips → IsFine chips chip → end_of chips.memories chip ≡ o → (pin : List ℕ) (w : ℕ) → width_in chip.chip.outputs pin ≡ Some w → is_input chip pin ≡ false
apart_by chips chip None ends fine is pin w h = output_is_no_input chips fine.names chip fine.faultless is pin w h
apart_by chips chip (Some e) ends fine is pin w h = ends.apart fine.name chip e fine.found is pin w h

pub no_input_by : (a : Option ℕ) → is_some a ≡ false → a ≡ None
no_input_by None h = refl
no_input_by (Some x) h = absurd cc

pub output_width : (chip : Entry) (pin : List ℕ) (w : ℕ) → is_input chip pin ≡ false → width_in chip.chip.outputs pin ≡ Some w → w ≡ width_of chip pin
output_width chip pin w apart h =
    (port_is chip pin (record { input = false; width = w })
    (found_ports chip.chip pin
    ∙ ap (λ (o : Option ℕ). first_of (as_port true o) (as_port false (width_in chip.chip.outputs pin))) (no_input_by (width_in chip.chip.inputs pin) apart)
    ∙ ap (as_port false) h)).wide

pub no_part : (chips : Chips) (chip : Entry) (e : End) (i : ℕ) (part : Part) → end_of chips.memories chip ≡ Some e → slice_get (parts_of chips chip) i ≡ Some part → ⊥
no_part chips chip e i part is there =
    let none : parts_of chips chip ≡ [] = ap (λ (o : Option End). parts_unless o (parts_of_body chip.chip.body)) is in
    let f : slice_get [] i ≡ Some part = ap (λ (ps : List Part). slice_get ps i) (sym none) ∙ there in
    cc

pub no_end_by : (chips : Chips) (chip : Entry) (i : ℕ) (part : Part) (o : Option End) → end_of chips.memories chip ≡ o → slice_get (parts_of chips chip) i ≡ Some part → end_of chips.memories chip ≡ None
no_end_by chips chip i part None is there = is
no_end_by chips chip i part (Some e) is there = absurd (no_part chips chip e i part is there)

-- ---- what a connection reaches and drives

pub record ReachedBy (inner : Entry) (conns : List Connection) (name : List ℕ) (bit : ℕ) : Type 0 where
  pub j : ℕ
  pub conn : Connection
  pub k : ℕ
  pub here : slice_get conns j ≡ Some conn
  pub named : conn.pin.name ≡ name
  pub bit_is : first conn.pin.subscript + k ≡ bit
  pub within : k < count conn.pin.subscript (width_of inner conn.pin.name)

pub reached_by : (inner : Entry) (conns : List Connection) (name : List ℕ) (bit : ℕ) → some (reaches inner name bit) conns ≡ true → ReachedBy inner conns name bit
reached_by inner conns name bit h =
    let x = item_of (reaches inner name bit) conns h in
    let a = and_both (bytes_eq x.item.pin.name name) _ x.holds in
    let b = and_both (nat_le (first x.item.pin.subscript) bit) _ a.1 in
    let low = le_by (first x.item.pin.subscript) bit b.0 in
    let high = le_by (suc bit) (first x.item.pin.subscript + count x.item.pin.subscript (width_of inner x.item.pin.name)) b.1 in
    record {
      j = x.at;
      conn = x.item;
      k = bit - first x.item.pin.subscript;
      here = x.there;
      named = (bytes_decides x.item.pin.name name).0 a.0;
      bit_is = omega arith;
      within = omega arith;
    }

pub record DrivenFrom (conn : Connection) (n : ℕ) (name : List ℕ) (bit : ℕ) : Type 0 where
  pub w : Selection
  pub k : ℕ
  pub right : conn.source ≡ source.Net w
  pub named : w.name ≡ name
  pub bit_is : first w.subscript + k ≡ bit
  pub within : k < n

pub driven_from : (conn : Connection) (n : ℕ) (name : List ℕ) (bit : ℕ) (s : Source) → conn.source ≡ s → drives_bits name bit n s ≡ true → DrivenFrom conn n name bit
driven_from conn n name bit (source.Constant b) right h = absurd cc
driven_from conn n name bit (source.Net w) right h =
    let a = and_both (bytes_eq w.name name) _ h in
    let b = and_both (nat_le (first w.subscript) bit) _ a.1 in
    let low = le_by (first w.subscript) bit b.0 in
    let high = le_by (suc bit) (first w.subscript + n) b.1 in
    record { w = w; k = bit - first w.subscript; right = right; named = (bytes_decides w.name name).0 a.0; bit_is = omega arith; within = omega arith }

pub record DrivenOut (inner : Entry) (conn : Connection) (name : List ℕ) (bit : ℕ) : Type 0 where
  pub width : ℕ
  pub out : width_in inner.chip.outputs conn.pin.name ≡ Some width
  pub from : DrivenFrom conn (count conn.pin.subscript width) name bit

pub driven_out : (inner : Entry) (conn : Connection) (name : List ℕ) (bit : ℕ) (o : Option ℕ) → width_in inner.chip.outputs conn.pin.name ≡ o → drives_conn inner name bit conn o ≡ true → DrivenOut inner conn name bit
driven_out inner conn name bit None e h = absurd cc
driven_out inner conn name bit (Some width) e h = record { width = width; out = e; from = driven_from conn (count conn.pin.subscript width) name bit conn.source refl h }

pub record DrivenBy (chips : Chips) (parts : List Part) (name : List ℕ) (bit : ℕ) : Type 0 where
  pub i : ℕ
  pub part : Part
  pub inner : Entry
  pub j : ℕ
  pub conn : Connection
  pub there : slice_get parts i ≡ Some part
  pub found : find_chip chips part.chip ≡ Some inner
  pub here : slice_get part.connections j ≡ Some conn
  pub out : DrivenOut inner conn name bit

pub driven_in : (chips : Chips) (parts : List Part) (name : List ℕ) (bit : ℕ) (i : ℕ) (part : Part) (o : Option Entry) → slice_get parts i ≡ Some part → find_chip chips part.chip ≡ o → drives_in name bit part.connections o ≡ true → DrivenBy chips parts name bit
driven_in chips parts name bit i part None there f h = absurd cc
driven_in chips parts name bit i part (Some inner) there f h =
    let x = item_of (λ (conn : Connection). drives_conn inner name bit conn (width_in inner.chip.outputs conn.pin.name)) part.connections h in
    record { i = i; part = part; inner = inner; j = x.at; conn = x.item; there = there; found = f; here = x.there; out = driven_out inner x.item name bit (width_in inner.chip.outputs x.item.pin.name) refl x.holds }

pub driven_by : (chips : Chips) (parts : List Part) (name : List ℕ) (bit : ℕ) → some (drives chips name bit) parts ≡ true → DrivenBy chips parts name bit
driven_by chips parts name bit h =
    let x = item_of (drives chips name bit) parts h in
    driven_in chips parts name bit x.at x.item (find_chip chips x.item.chip) x.there refl x.holds

-- ---- nodes of a circle

module _ (net : Net) (circle : List ℕ) (c : IsCircle net.nodes net.blocks circle) where
  record OnCircle (k : ℕ) : Type 0 where
    place : ℕ
    there : slice_get circle place ≡ Some k

  record Next (k : ℕ) : Type 0 where
    other : ℕ
    reads : Reads net.nodes net.blocks k other
    on : OnCircle other

  next : (k : ℕ) → OnCircle k → Next k
  next k o = by (nat_eq (suc o.place) (length circle)) refl
    where
      by : (t : Bool) → nat_eq (suc o.place) (length circle) ≡ t → Next k
      by true e =
          let zeroth = got circle 0 c.some in
          record {
            other = slice_index circle 0;
            reads = c.reads o.place k (slice_index circle 0) o.there (ap (λ (t : Bool). if t then slice_get circle 0 else slice_get circle (suc o.place)) e ∙ zeroth);
            on = record { place = 0; there = zeroth };
          }
      by false e =
          let lt = below_length circle o.place k o.there in
          let ne : suc o.place ≡ length circle → ⊥ = λ q. (let f : true ≡ false = sym ((Decides-eqb (suc o.place) (length circle)).1 q) ∙ e in absurd cc) in
          let behind = got circle (suc o.place) (omega arith) in
          record {
            other = slice_index circle (suc o.place);
            reads = c.reads o.place k (slice_index circle (suc o.place)) o.there (ap (λ (t : Bool). if t then slice_get circle 0 else slice_get circle (suc o.place)) e ∙ behind);
            on = record { place = suc o.place; there = behind };
          }

  -- one of the nodes that a node reads is on the circle too
  record OneRead (those : List ℕ) : Type 0 where
    at : ℕ
    other : ℕ
    is : slice_get those at ≡ Some other
    on : OnCircle other

  read_of : (k : ℕ) (node : Node) → slice_get net.nodes k ≡ Some node → OnCircle k → OneRead (reads_of net.blocks node)
  read_of k node e o =
      let n = next k o in
      record { at = n.reads.at; other = n.other; is = sym (ap (λ (x : Option Node). slice_get (reads_by net.blocks x) n.reads.at) e) ∙ n.reads.there; on = n.on }

  none_read : OneRead [] → ⊥
  none_read r = let e = r.is in cc

  no_pin : (k : ℕ) → slice_get net.nodes k ≡ Some nodes.Pin → OnCircle k → ⊥
  no_pin k e o = none_read (read_of k nodes.Pin e o)

  no_flip : (k i : ℕ) → slice_get net.nodes k ≡ Some (nodes.Flip i) → OnCircle k → ⊥
  no_flip k i e o = none_read (read_of k (nodes.Flip i) e o)

  no_zero : (k : ℕ) → slice_get net.nodes k ≡ Some nodes.Zero → OnCircle k → ⊥
  no_zero k e o = none_read (read_of k nodes.Zero e o)

  no_high : (low high : ℕ) → slice_get net.nodes low ≡ Some nodes.Zero → slice_get net.nodes high ≡ Some (nodes.Nand low low) → OnCircle high → ⊥
  no_high low high e f o = let r = read_of high (nodes.Nand low low) f o in by r.on (one_of_two low low r.at r.other r.is)
    where
      by : {x : ℕ} → OnCircle x → (low ≡ x) ⊎ (low ≡ x) → ⊥
      by on (inl s) = no_zero low e (subst OnCircle (sym s) on)
      by on (inr s) = no_zero low e (subst OnCircle (sym s) on)

  there_by : (k : ℕ) (o : Option Node) → slice_get net.nodes k ≡ o → OnCircle k → (node : Node) × (slice_get net.nodes k ≡ Some node)
  there_by k None e o = let n = next k o in let f : slice_get [] n.reads.at ≡ Some n.other = sym (ap (λ (x : Option Node). slice_get (reads_by net.blocks x) n.reads.at) e) ∙ n.reads.there in absurd cc
  there_by k (Some node) e o = (node, e)

  -- ---- ends

  record ReadPin (chip : Entry) (e : End) (at : Wires ℕ) : Type 0 where
    name : List ℕ
    bit : ℕ
    reaches : reaches_out e name ≡ true
    has : HasBit chip.chip.inputs name bit
    on : OnCircle (at name bit)

  nand_read : (chip : Entry) (at : Wires ℕ) → IsWide chip ends.Nand → OneRead (at (codes "a") 0 ∷ at (codes "b") 0 ∷ []) → ReadPin chip ends.Nand at
  nand_read chip at wide r = by (one_of_two (at (codes "a") 0) (at (codes "b") 0) r.at r.other r.is)
    where
      by : (at (codes "a") 0 ≡ r.other) ⊎ (at (codes "b") 0 ≡ r.other) → ReadPin chip ends.Nand at
      by (inl s) = record { name = codes "a"; bit = 0; reaches = refl; has = record { width = 1; there = wide.0; below = omega arith }; on = subst OnCircle (sym s) r.on }
      by (inr s) = record { name = codes "b"; bit = 0; reaches = refl; has = record { width = 1; there = wide.1; below = omega arith }; on = subst OnCircle (sym s) r.on }

  address_read : (chip : Entry) (e : End) (at : Wires ℕ) (n : ℕ) → reaches_out e (codes "address") ≡ true → width_in chip.chip.inputs (codes "address") ≡ Some n → OneRead (nodes_of n (at (codes "address"))) → ReadPin chip e at
  address_read chip e at n reaches wide r =
      let s = node_of (at (codes "address")) n r.at r.other r.is in
      record { name = codes "address"; bit = r.at; reaches = reaches; has = record { width = n; there = wide; below = s.0 }; on = subst OnCircle (sym s.1) r.on }

  block_read : (chip : Entry) (e : End) (at : Wires ℕ) (n k b bit : ℕ) (block : Block) → slice_get net.blocks b ≡ Some block → block.address ≡ nodes_of n (at (codes "address")) → slice_get net.nodes k ≡ Some (nodes.Word b bit) → reaches_out e (codes "address") ≡ true → width_in chip.chip.inputs (codes "address") ≡ Some n → OnCircle k → ReadPin chip e at
  block_read chip e at n k b bit block there is stands reaches wide on =
      address_read chip e at n reaches wide (subst OneRead (ap address_in there ∙ is) (read_of k (nodes.Word b bit) stands on))

  only_zero : (bit : ℕ) → bit < 1 → bit ≡ 0
  only_zero bit lt = omega arith

  end_read : (low b : ℕ) (chip : Entry) (e : End) (at : Wires ℕ) → EndStands net low b e at → IsWide chip e → (bit : ℕ) → bit < out_bits e → OnCircle (at (codes "out") bit) → ReadPin chip e at
  end_read low b chip ends.Nand at stands wide bit lt on = nand_read chip at wide (read_of (at (codes "out") 0) (nodes.Nand (at (codes "a") 0) (at (codes "b") 0)) stands (subst (λ (x : ℕ). OnCircle (at (codes "out") x)) (only_zero bit lt) on))
  end_read low b chip ends.Dff at stands wide bit lt on = absurd (no_flip (at (codes "out") 0) (at (codes "in") 0) stands (subst (λ (x : ℕ). OnCircle (at (codes "out") x)) (only_zero bit lt) on))
  end_read low b chip ends.Keyboard at stands wide bit lt on = absurd (no_pin (at (codes "out") bit) (stands bit lt) on)
  end_read low b chip ends.Rom at stands wide bit lt on = block_read chip ends.Rom at 15 (at (codes "out") bit) b bit _ stands.there refl (stands.words bit lt) refl wide.0 on
  end_read low b chip (ends.Block bits) at stands wide bit lt on = block_read chip (ends.Block bits) at bits (at (codes "out") bit) b bit _ stands.there refl (stands.words bit lt) refl wide.0 on

-- ---- bits whose nodes are on the circle

module _ (chips : Chips) (top_name : List ℕ) (top : Entry) (has_ends : HasEnds chips) (wide : AreWide chips) (alone : HaveOutAlone chips) (top_found : find_chip chips top_name ≡ Some top) (faultless : IsFaultless chips (top.name ∷ []) top) (d : ℕ) (sound : IsSound d chips (plan_of chips) top) (net : Net) (low high : ℕ) (block : List ℕ → ℕ) (at : List ℕ → Wires ℕ) (numbering : IsNumbering net low high chips top block at) (pins : ArePins net top at) (circle : List ℕ) (c : IsCircle net.nodes net.blocks circle) where
  abbrev bit_of : List ℕ → List ℕ → ℕ → BitAt
  bit_of r name bit = bit_at (backwards r) name bit

  abbrev all_bits : List BitAt
  all_bits = tree_bits d chips top []

  abbrev On : ℕ → Type 0
  On k = OnCircle net circle c k

  fine : (path : List ℕ) (chip : Entry) → chip_at chips top path ≡ Some chip → IsFine chips chip
  fine path chip there = fine_at chips (top.name ∷ []) top_name top path chip top_found faultless there

  no_low : On low → ⊥
  no_low on = no_zero net circle c low numbering.low_stands on

  not_high : On high → ⊥
  not_high on = no_high net circle c low high numbering.low_stands numbering.high_stands on

  -- a bit that has a source, or is one of an output
  record Traced (r name : List ℕ) (bit : ℕ) : Type 0 where
    chip : Entry
    there : chip_at chips top (backwards r) ≡ Some chip
    kind : Sourced chips chip name bit ⊎ HasBit chip.chip.outputs name bit
    on : On (at (backwards r) name bit)

  record Fed (r name : List ℕ) (bit : ℕ) : Type 0 where
    q : List ℕ
    n : List ℕ
    k : ℕ
    among : Among (bit_of q n k) all_bits
    feeds : Feeds chips top (bit_of q n k) (bit_of r name bit)
    traced : Traced q n k

  module _ (path : List ℕ) (chip : Entry) (there : chip_at chips top path ≡ Some chip) (no_end : end_of chips.memories chip ≡ None) where
    wired : PartsWired low high chips chip (parts_of chips chip) (at path) (λ i. at (path ++ i ∷ []))
    wired =
        subst (λ (ps : List Part). PartsWired low high chips chip ps (at path) (λ i. at (path ++ i ∷ []))) (sym (ap (λ (o : Option End). parts_unless o (parts_of_body chip.chip.body)) no_end))
        (subst (λ (o : Option End). ChipWired low high chips chip o (at path) (λ i. at (path ++ i ∷ [])) (λ e. EndStands net low (block path) e (at path))) no_end (numbering.wired path chip there))

  stands_at : (path : List ℕ) (chip : Entry) (e : End) → chip_at chips top path ≡ Some chip → end_of chips.memories chip ≡ Some e → EndStands net low (block path) e (at path)
  stands_at path chip e there is = subst (λ (o : Option End). ChipWired low high chips chip o (at path) (λ i. at (path ++ i ∷ [])) (λ e. EndStands net low (block path) e (at path))) is (numbering.wired path chip there)

  -- ---- an input

  module _ (r : List ℕ) (i : ℕ) (name : List ℕ) (bit : ℕ) (around inner : Entry) (part : Part) (there : chip_at chips top (backwards r) ≡ Some around) (here : slice_get (parts_of chips around) i ≡ Some part) (found : find_chip chips part.chip ≡ Some inner) (has : HasBit inner.chip.inputs name bit) (on : On (at (backwards r ++ i ∷ []) name bit)) where
    part_wired : PartWired low high inner part (at (backwards r)) (at (backwards r ++ i ∷ []))
    part_wired = (wired (backwards r) around there (no_end_by chips around i part (end_of chips.memories around) refl here)).part i part inner here found

    module _ (x : ReachedBy inner part.connections name bit) where
      same_inside : at (backwards r ++ i ∷ []) x.conn.pin.name (first x.conn.pin.subscript + x.k) ≡ at (backwards r ++ i ∷ []) name bit
      same_inside = ap (λ (n : List ℕ). at (backwards r ++ i ∷ []) n (first x.conn.pin.subscript + x.k)) x.named ∙ ap (at (backwards r ++ i ∷ []) name) x.bit_is

      joined : at (backwards r ++ i ∷ []) name bit ≡ source_value low high x.conn.source (at (backwards r)) x.k
      joined = sym same_inside ∙ each_at (Joins low high inner (at (backwards r)) (at (backwards r ++ i ∷ []))) part.connections x.j x.conn part_wired.joined x.here x.k x.within

      way : is_input inner x.conn.pin.name ≡ true
      way = ap (is_input inner) x.named ∙ ap is_some has.there

      fed_from : (s : Source) → x.conn.source ≡ s → Fed (i ∷ r) name bit
      fed_from (source.Constant true) right = absurd (not_high (subst On (joined ∙ ap (λ (s : Source). source_value low high s (at (backwards r)) x.k) right) on))
      fed_from (source.Constant false) right = absurd (no_low (subst On (joined ∙ ap (λ (s : Source). source_value low high s (at (backwards r)) x.k) right) on))
      fed_from (source.Net w) right =
          let j : IsJoint chips top (backwards r) i x.conn w x.k true = record { chip = around; part = part; inner = inner; j = x.j; at = there; there = here; found = found; here = x.here; right = right; way = way; within = x.within } in
          let f = fine (backwards r) around there in
          let inside : inside_bit (backwards r) i x.conn x.k ≡ bit_of (i ∷ r) name bit = ap (λ (n : List ℕ). bit_at (backwards r ++ i ∷ []) n (first x.conn.pin.subscript + x.k)) x.named ∙ ap (bit_at (backwards r ++ i ∷ []) name) x.bit_is in
          record {
            q = r;
            n = w.name;
            k = first w.subscript + x.k;
            among = (joint_among chips d top (backwards r) i x.conn w x.k true sound j).0;
            feeds = subst (λ y. Feeds chips top (outside_bit (backwards r) w x.k) y) inside (down j);
            traced = record {
              chip = around;
              there = there;
              kind = inl (source_of chips f.names around f.faultless i x.j x.k part inner x.conn w here found x.here way right x.within);
              on = subst On (joined ∙ ap (λ (s : Source). source_value low high s (at (backwards r)) x.k) right) on;
            };
          }

    fed_by_part : (b : Bool) → some (reaches inner name bit) part.connections ≡ b → Fed (i ∷ r) name bit
    fed_by_part false e = absurd (no_low (subst On (part_wired.unjoined name has.width bit has.there has.below e) on))
    fed_by_part true e = let x = reached_by inner part.connections name bit e in fed_from x x.conn.source refl

  input_fed : (r name : List ℕ) (bit : ℕ) (chip : Entry) → chip_at chips top (backwards r) ≡ Some chip → HasBit chip.chip.inputs name bit → On (at (backwards r) name bit) → Fed r name bit
  input_fed [] name bit chip there has on =
      let same : chip ≡ top = cc in
      absurd (no_pin net circle c (at [] name bit) (pins name bit (subst (λ (x : Entry). HasBit x.chip.inputs name bit) same has)) on)
  input_fed (i ∷ r) name bit chip there has on =
      let a = around_of chips top (backwards r) i chip there in
      let p = part_of_by chips a.around i chip (slice_get (parts_of chips a.around) i) refl a.found in
      fed_by_part r i name bit a.around chip p.part a.at p.there p.found has on (some (reaches chip name bit) p.part.connections) refl

  -- ---- a net

  net_fed : (r name : List ℕ) (bit : ℕ) (chip : Entry) → chip_at chips top (backwards r) ≡ Some chip → some (drives chips name bit) (parts_of chips chip) ≡ true → On (at (backwards r) name bit) → Fed r name bit
  net_fed r name bit chip there driven on =
      let x = driven_by chips (parts_of chips chip) name bit driven in
      let o = x.out in
      let f = o.from in
      let within_chip : inner_chip chips chip x.i ≡ Some x.inner = ap (chip_of chips) x.there ∙ x.found in
      let below : chip_at chips top (backwards r ++ x.i ∷ []) ≡ Some x.inner = chip_below chips (backwards r) top chip x.inner x.i there within_chip in
      let apart : is_input x.inner x.conn.pin.name ≡ false = apart_by chips x.inner (end_of chips.memories x.inner) has_ends (fine (backwards r ++ x.i ∷ []) x.inner below) refl x.conn.pin.name o.width o.out in
      let within : f.k < count x.conn.pin.subscript (width_of x.inner x.conn.pin.name) = subst (λ (v : ℕ). f.k < count x.conn.pin.subscript v) (output_width x.inner x.conn.pin.name o.width apart o.out) f.within in
      let j : IsJoint chips top (backwards r) x.i x.conn f.w f.k false = record { chip = chip; part = x.part; inner = x.inner; j = x.j; at = there; there = x.there; found = x.found; here = x.here; right = f.right; way = apart; within = within } in
      let own : IsJoint chips chip [] x.i x.conn f.w f.k false = record { chip = chip; part = x.part; inner = x.inner; j = x.j; at = refl; there = x.there; found = x.found; here = x.here; right = f.right; way = apart; within = within } in
      let outside : outside_bit (backwards r) f.w f.k ≡ bit_of r name bit = ap (λ (n : List ℕ). bit_at (backwards r) n (first f.w.subscript + f.k)) f.named ∙ ap (bit_at (backwards r) name) f.bit_is in
      let w = wired (backwards r) chip there (no_end_by chips chip x.i x.part (end_of chips.memories chip) refl x.there) in
      let joined : at (backwards r ++ x.i ∷ []) x.conn.pin.name (first x.conn.pin.subscript + f.k) ≡ at (backwards r) name bit =
      each_at (Joins low high x.inner (at (backwards r)) (at (backwards r ++ x.i ∷ []))) x.part.connections x.j x.conn (w.part x.i x.part x.inner x.there x.found).joined x.here f.k within
      ∙ ap (λ (s : Source). source_value low high s (at (backwards r)) f.k) f.right
      ∙ ap (λ (n : List ℕ). at (backwards r) n (first f.w.subscript + f.k)) f.named ∙ ap (at (backwards r) name) f.bit_is in
      record {
        q = x.i ∷ r;
        n = x.conn.pin.name;
        k = first x.conn.pin.subscript + f.k;
        among = (joint_among chips d top (backwards r) x.i x.conn f.w f.k false sound j).1;
        feeds = subst (λ y. Feeds chips top (inside_bit (backwards r) x.i x.conn f.k) y) outside (up j);
        traced = record {
          chip = x.inner;
          there = below;
          kind = inr (tree_fits chips (top.name ∷ []) top faultless (backwards r) chip there x.i x.conn f.w f.k false own);
          on = subst On (sym joined) on;
        };
      }

  -- ---- one step back

  record Prior (r name : List ℕ) (bit : ℕ) : Type 0 where
    q : List ℕ
    n : List ℕ
    k : ℕ
    among : Among (bit_of q n k) all_bits
    way : Way (Feeds chips top) (bit_of q n k) (bit_of r name bit)
    traced : Traced q n k

  at_once : (r name : List ℕ) (bit : ℕ) → Fed r name bit → Prior r name bit
  at_once r name bit f = record { q = f.q; n = f.n; k = f.k; among = f.among; way = one_step (bit_of f.q f.n f.k) (bit_of r name bit) f.feeds; traced = f.traced }

  -- over the pin of an end
  end_prior : (r name : List ℕ) (bit : ℕ) (chip : Entry) (e : End) → chip_at chips top (backwards r) ≡ Some chip → end_of chips.memories chip ≡ Some e → HasBit chip.chip.outputs name bit → On (at (backwards r) name bit) → Prior r name bit
  end_prior r name bit chip e there is has on =
      let g = fine (backwards r) chip there in
      let out = alone g.name chip e g.found is name bit has in
      let p = end_read net circle c low (block (backwards r)) chip e (at (backwards r)) (stands_at (backwards r) chip e there is) (wide g.name chip e g.found is) bit out.1 (subst (λ (x : List ℕ). On (at (backwards r) x bit)) out.0 on) in
      let f = input_fed r p.name p.bit chip there p.has p.on in
      let over : Feeds chips top (bit_of r p.name p.bit) (bit_of r name bit) = subst (λ x. Feeds chips top (bit_of r p.name p.bit) (bit_of r x bit)) (sym out.0) (through {path = backwards r} {name = p.name} {bit = p.bit} {out = bit} there is p.reaches) in
      record {
        q = f.q;
        n = f.n;
        k = f.k;
        among = f.among;
        way = join_ways (bit_of f.q f.n f.k) (bit_of r p.name p.bit) (bit_of r name bit) (one_step (bit_of f.q f.n f.k) (bit_of r p.name p.bit) f.feeds) (one_step (bit_of r p.name p.bit) (bit_of r name bit) over);
        traced = f.traced;
      }

  output_by : (r name : List ℕ) (bit : ℕ) (chip : Entry) (b : Bool) → chip_at chips top (backwards r) ≡ Some chip → end_of chips.memories chip ≡ None → HasBit chip.chip.outputs name bit → On (at (backwards r) name bit) → some (drives chips name bit) (parts_of chips chip) ≡ b → Prior r name bit
  output_by r name bit chip true there is has on e = at_once r name bit (net_fed r name bit chip there e on)
  output_by r name bit chip false there is has on e = absurd (no_low (subst On ((wired (backwards r) chip there is).undriven name has.width bit has.there has.below e) on))

  output_prior : (r name : List ℕ) (bit : ℕ) (chip : Entry) (o : Option End) → chip_at chips top (backwards r) ≡ Some chip → end_of chips.memories chip ≡ o → HasBit chip.chip.outputs name bit → On (at (backwards r) name bit) → Prior r name bit
  output_prior r name bit chip (Some e) there is has on = end_prior r name bit chip e there is has on
  output_prior r name bit chip None there is has on = output_by r name bit chip (some (drives chips name bit) (parts_of chips chip)) there is has on refl

  prior_by : (r name : List ℕ) (bit : ℕ) (chip : Entry) → chip_at chips top (backwards r) ≡ Some chip → Sourced chips chip name bit ⊎ HasBit chip.chip.outputs name bit → On (at (backwards r) name bit) → Prior r name bit
  prior_by r name bit chip there (inl (inl has)) on = at_once r name bit (input_fed r name bit chip there has on)
  prior_by r name bit chip there (inl (inr driven)) on = at_once r name bit (net_fed r name bit chip there driven on)
  prior_by r name bit chip there (inr has) on = output_prior r name bit chip (end_of chips.memories chip) there refl has on

  prior : (r name : List ℕ) (bit : ℕ) → Traced r name bit → Prior r name bit
  prior r name bit t = prior_by r name bit t.chip t.there t.kind t.on

  -- ---- many steps

  record Visits (n : ℕ) (x : BitAt) : Type 0 where
    over : List BitAt
    number : length over ≡ n
    all : AllAmong over all_bits
    linked : Linked chips top x over

  visits : (n : ℕ) (r name : List ℕ) (bit : ℕ) → Traced r name bit → Visits n (bit_of r name bit)
  visits zero r name bit t = record { over = []; number = refl; all = tt; linked = tt }
  visits (suc n) r name bit t =
      let p = prior r name bit t in
      let rest = visits n p.q p.n p.k p.traced in
      record { over = bit_of p.q p.n p.k ∷ rest.over; number = ap suc rest.number; all = (p.among, rest.all); linked = (p.way, rest.linked) }

  looped : (r name : List ℕ) (bit : ℕ) → Traced r name bit → HasLoop chips top
  looped r name bit t =
      let v = visits (suc (length all_bits)) r name bit t in
      let n = v.number in
      loop_in chips top (bit_of r name bit) v.over all_bits v.linked v.all (omega arith)

  module _ (outputs : AreOutputs net low high chips top at) where
    from_node : (k : ℕ) (node : Node) → On k → slice_get net.nodes k ≡ Some node → (node ≡ nodes.Pin) ⊎ ((k ≡ low) ⊎ ((k ≡ high) ⊎ IsOutput chips top at k)) → HasLoop chips top
    from_node k node on e (inl p) = absurd (no_pin net circle c k (e ∙ ap (λ (x : Node). Some x) p) on)
    from_node k node on e (inr (inl p)) = absurd (no_low (subst On p on))
    from_node k node on e (inr (inr (inl p))) = absurd (not_high (subst On p on))
    from_node k node on e (inr (inr (inr o))) =
        let twice : backwards (backwards o.path) ≡ o.path = backwards-twice o.path in
        looped (backwards o.path) o.pin o.bit (record {
          chip = o.chip;
          there = ap (chip_at chips top) twice ∙ o.there;
          kind = inr o.has;
          on = subst On (sym (ap (λ (p : List ℕ). at p o.pin o.bit) twice ∙ o.node)) on;
        })

    pub from_circle : HasLoop chips top
    from_circle =
        let on : On (slice_index circle 0) = record { place = 0; there = got circle 0 c.some } in
        let n = there_by net circle c (slice_index circle 0) (slice_get net.nodes (slice_index circle 0)) refl on in
        from_node (slice_index circle 0) n.0 on n.1 (outputs (slice_index circle 0) n.0 n.1)

pub reads_loop : ReadsLaw
reads_loop chips name top has_ends wide alone found faultless net low high block at numbering outputs pins circle c =
    from_circle chips name top has_ends wide alone found faultless (length chips.entries) (faultless_sound chips name top has_ends found faultless) net low high block at numbering pins circle c outputs
