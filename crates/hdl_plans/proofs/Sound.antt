-- A chip without faults has the plan of its text: what drives a bit, and what feeds one.
use Rattle.std.proofs.Common.{◌≡◌, ℕ, ◌+◌, ◌-◌, ◌<◌, Bool, true, false, cond, ◌||◌, List, [], ◌∷◌, ◌++◌, take, Option, Some, None, refl, sym, ap, subst, ◌∙◌, arith, zero-add}
use Rattle.std.specs.Prelude.{slice_get, is_some, unwrap_or}
use Rattle.std.specs.Str.{bytes_eq}
use Rattle.hdl_tree.specs.declared.tree.Pin.{Pin}
use Rattle.hdl_tree.specs.declared.tree.Selection.{Selection}
use Rattle.hdl_tree.specs.declared.tree.Source.{Source}
use Rattle.hdl_tree.specs.declared.tree.Source.TheVariants as source
use Rattle.hdl_tree.specs.declared.tree.Connection.{Connection}
use Rattle.hdl_tree.specs.declared.tree.Part.{Part}
use Rattle.hdl_tree.specs.declared.tree.Chip.{Chip}
use Rattle.hdl_tree.specs.declared.library.Entry.{Entry}
use Rattle.hdl_tree.specs.Chips.{Chips, find_chip, parts_of, pin_width, first, count}
use Rattle.hdl_tree.specs.Behaviour.{width_in, width_of}
use Rattle.name_table.specs.Names.{find_value, first_of}
use Rattle.hdl_check.specs.Tables.{BitOf, bits_of, is_in, some_in}
use Rattle.hdl_check.specs.declared.fault.NamedFault.{NamedFault}
use Rattle.hdl_check.specs.Faults.{Context, context, driver_by, drivers_by, drivers_of, bits_driven, fed_by, bits_fed, ports_in, ports_of, port_of, right_side_of, right_side_of_name, is_undrivable, width_fault, driven_fault, undriven_fault, driving_fault, feeding_fault, wiring_fault, wiring_fault_by, connection_fault, connection_fault_at, connection_fault_by, net_width}
use Rattle.hdl_check.specs.Locations.{AtConnection, fault_of_connection, IsFaultless}
use Rattle.hdl_check.specs.declared.check.Port.{Port}
use Rattle.name_table.proofs.Entries.{found-append}
use Rattle.hdl_check.proofs.MarkLemmas.{is_in-append}
use Rattle.hdl_check.proofs.Checking.{driver_is, fed_is}
use Rattle.hdl_plans.specs.Plans.{Low, IsDriver, is_input, origin_of}
use Rattle.hdl_plans.specs.Planned.{output_from, output_by, origin_by, origin_in, origin_at, plan_of}
use Rattle.hdl_plans.proofs.Planned.{bit_there, bit_not_there, driver_at, origin_here}

-- ---- pins, as the two definitions see them

abbrev pub as_port : Bool → Option ℕ → Option Port
as_port input None = None
as_port input (Some w) = Some (record { input = input; width = w })

cond_port : (b input : Bool) (w : ℕ) (o : Option ℕ) → cond b (Some (record { input = input; width = w })) (as_port input o) ≡ as_port input (cond b (Some w) o)
cond_port true input w o = refl
cond_port false input w o = refl

found_in : (input : Bool) (pins : List Pin) (name : List ℕ) → find_value name (ports_in input pins) ≡ as_port input (width_in pins name)
found_in input [] name = refl
found_in input (p ∷ ps) name = ap (λ o. cond (bytes_eq name p.name) (Some (port_of input p)) o) (found_in input ps name) ∙ cond_port (bytes_eq name p.name) input (pin_width p) (width_in ps name)

width_over : Option ℕ → Option ℕ → ℕ
width_over a b = elim (first_of a b) [ None ↦ 0 | Some w ↦ w ]

cond_first : (b : Bool) (w : ℕ) (o p : Option ℕ) → cond b (Some w) (first_of o p) ≡ first_of (cond b (Some w) o) p
cond_first true w o p = refl
cond_first false w o p = refl

width_in-append : (ps qs : List Pin) (name : List ℕ) → width_in (ps ++ qs) name ≡ first_of (width_in ps name) (width_in qs name)
width_in-append [] qs name = refl
width_in-append (p ∷ ps) qs name = ap (λ o. cond (bytes_eq name p.name) (Some (pin_width p)) o) (width_in-append ps qs name) ∙ cond_first (bytes_eq name p.name) (pin_width p) (width_in ps name) (width_in qs name)

pub record PortIs (entry : Entry) (name : List ℕ) (port : Port) : Type 0 where
  pub way : port.input ≡ is_input entry name
  pub wide : port.width ≡ width_of entry name

port_by : (entry : Entry) (name : List ℕ) (port : Port) (a b : Option ℕ) → width_in entry.chip.inputs name ≡ a → width_in entry.chip.outputs name ≡ b → first_of (as_port true a) (as_port false b) ≡ Some port → PortIs entry name port
port_by entry name port None None e f h = absurd cc
port_by entry name port None (Some w) e f h =
    let p : port ≡ record { input = false; width = w } = cc in
    record {
      way = ap (λ (x : Port). x.input) p ∙ sym (ap is_some e);
      wide = ap (λ (x : Port). x.width) p ∙ sym (ap (λ (o : Option ℕ). elim o as (λ _. ℕ) [ None ↦ 0 | Some x ↦ x ]) (width_in-append entry.chip.inputs entry.chip.outputs name ∙ ap (λ o. first_of o (width_in entry.chip.outputs name)) e ∙ f));
    }
port_by entry name port (Some w) b e f h =
    let p : port ≡ record { input = true; width = w } = cc in
    record {
      way = ap (λ (x : Port). x.input) p ∙ sym (ap is_some e);
      wide = ap (λ (x : Port). x.width) p ∙ sym (ap (λ (o : Option ℕ). elim o as (λ _. ℕ) [ None ↦ 0 | Some x ↦ x ]) (width_in-append entry.chip.inputs entry.chip.outputs name ∙ ap (λ o. first_of o (width_in entry.chip.outputs name)) e));
    }

pub found_ports : (chip : Chip) (name : List ℕ) → find_value name (ports_of chip) ≡ first_of (as_port true (width_in chip.inputs name)) (as_port false (width_in chip.outputs name))
found_ports chip name =
    found-append name (ports_in true chip.inputs) (ports_in false chip.outputs)
    ∙ ap (λ o. first_of o (find_value name (ports_in false chip.outputs))) (found_in true chip.inputs name)
    ∙ ap (first_of (as_port true (width_in chip.inputs name))) (found_in false chip.outputs name)

pub port_is : (entry : Entry) (name : List ℕ) (port : Port) → find_value name (ports_of entry.chip) ≡ Some port → PortIs entry name port
port_is entry name port h = port_by entry name port (width_in entry.chip.inputs name) (width_in entry.chip.outputs name) refl refl (sym (found_ports entry.chip name) ∙ h)

-- ---- what a connection without faults has

both_none : (a b : Option NamedFault) → first_of a b ≡ None → (a ≡ None) × (b ≡ None)
both_none None b h = (refl, h)
both_none (Some a) b h = absurd cc

not_told : (b : Bool) (t : NamedFault) → cond b (Some t) None ≡ None → b ≡ false
not_told true t h = absurd cc
not_told false t h = refl

or_both : (a b : Bool) → (a || b) ≡ false → (a ≡ false) × (b ≡ false)
or_both true b h = absurd cc
or_both false b h = (refl, h)

module _ (chips : Chips) (names : List (List ℕ)) (chip : Entry) (faultless : IsFaultless chips names chip) (i j : ℕ) (part : Part) (inner : Entry) (conn : Connection) (there : slice_get (parts_of chips chip) i ≡ Some part) (in_library : find_chip chips part.chip ≡ Some inner) (here : slice_get part.connections j ≡ Some conn) where
  text : Context
  text = context chips chip i (ports_of inner.chip) part.connections j

  right : connection_fault text (ports_of inner.chip) conn ≡ None
  unfolding text
  right =
      sym (ap (λ o. fault_of_connection chips chip i o j) there ∙ ap (connection_fault_by chips chip i part j) in_library ∙ ap (connection_fault_at (context chips chip i (ports_of inner.chip) part.connections j) (ports_of inner.chip)) here)
      ∙ faultless (AtConnection i j)

  -- the part's chip has the pin
  has_pin : (o : Option Port) → find_value conn.pin.name (ports_of inner.chip) ≡ o → (port : Port) × (find_value conn.pin.name (ports_of inner.chip) ≡ Some port)
  has_pin None e = let h = sym (ap (wiring_fault_by text conn) e) ∙ right in absurd cc
  has_pin (Some port) e = (port, e)

  module _ (port : Port) (pin : find_value conn.pin.name (ports_of inner.chip) ≡ Some port) where
    wired : wiring_fault text port conn ≡ None
    wired = sym (ap (wiring_fault_by text conn) pin) ∙ right

    driven : driven_fault text port conn (right_side_of text conn.source) ≡ None
    driven = (both_none (driven_fault text port conn (right_side_of text conn.source)) (undriven_fault text.chip port conn (right_side_of text conn.source)) (both_none (width_fault text.chip port conn (right_side_of text conn.source)) _ wired).1).0

    -- an output
    module _ (output : port.input ≡ false) where
      driving : driving_fault text.chip conn (right_side_of text conn.source) (some_in (bits_driven (driver_by (Some port) conn)) text.driven) ≡ None
      driving = sym (ap (λ (b : Bool). cond b (feeding_fault text.chip conn (right_side_of text conn.source) (some_in (fed_by (Some port) conn) text.fed)) (driving_fault text.chip conn (right_side_of text conn.source) (some_in (bits_driven (driver_by (Some port) conn)) text.driven))) output) ∙ driven

      clear : (is_undrivable (right_side_of text conn.source) ≡ false) × (some_in (bits_driven (driver_by (Some port) conn)) text.driven ≡ false)
      clear = or_both (is_undrivable (right_side_of text conn.source)) (some_in (bits_driven (driver_by (Some port) conn)) text.driven) (not_told _ _ driving)

      not_input_by : (w : Selection) (o : Option ℕ) → width_in chip.chip.inputs w.name ≡ o → is_undrivable (right_side_of_name (find_value w.name (ports_of chip.chip)) (net_width w.name (drivers_of chips (parts_of chips chip)))) ≡ false → is_some o ≡ false
      not_input_by w None e h = refl
      not_input_by w (Some x) e h =
          let f : find_value w.name (ports_of chip.chip) ≡ Some (record { input = true; width = x }) = found_ports chip.chip w.name ∙ ap (λ o. first_of (as_port true o) (as_port false (width_in chip.chip.outputs w.name))) e in
          let g : true ≡ false = sym (ap (λ (o : Option Port). is_undrivable (right_side_of_name o (net_width w.name (drivers_of chips (parts_of chips chip))))) f) ∙ h in
          absurd cc

      clear_bit : (w : Selection) (k : ℕ) → conn.source ≡ source.Net w → k < count conn.pin.subscript port.width → is_in w.name (first w.subscript + k) text.driven ≡ false
      clear_bit w k e lt =
          bit_not_there w.name (first w.subscript) k (count conn.pin.subscript port.width) text.driven lt
          (ap (λ (bs : List BitOf). some_in bs text.driven) (sym (driver_is port conn w output e)) ∙ clear.1)

      clear_parts : (w : Selection) (k : ℕ) → conn.source ≡ source.Net w → k < count conn.pin.subscript port.width →
          (is_in w.name (first w.subscript + k) (bits_driven (drivers_of chips (take i (parts_of chips chip)))) ≡ false) × (is_in w.name (first w.subscript + k) (bits_driven (drivers_by (ports_of inner.chip) (take j part.connections))) ≡ false)
      unfolding text
      clear_parts w k e lt =
          or_both _ _ (sym (is_in-append w.name (first w.subscript + k) (bits_driven (drivers_of chips (take i (parts_of chips chip)))) (bits_driven (drivers_by (ports_of inner.chip) (take j part.connections)))) ∙ clear_bit w k e lt)

      place_by : (n k : ℕ) (w : Selection) → n ≡ i → conn.source ≡ source.Net w → k < count conn.pin.subscript port.width →
          output_by n w.name (first w.subscript + k) conn (find_value conn.pin.name (ports_of inner.chip)) ≡ Some (record { part = i; pin = conn.pin.name; bit = first conn.pin.subscript + k })
      place_by n k w number e lt =
          let back : (first w.subscript + k) - first w.subscript ≡ k = omega arith in
          ap (output_by n w.name (first w.subscript + k) conn) pin
          ∙ ap (λ (b : Bool). cond b None (output_from n w.name (first w.subscript + k) conn (count conn.pin.subscript port.width) conn.source)) output
          ∙ ap (output_from n w.name (first w.subscript + k) conn (count conn.pin.subscript port.width)) e
          ∙ ap (λ (b : Bool). cond b (Some (record { part = n; pin = conn.pin.name; bit = first conn.pin.subscript + ((first w.subscript + k) - first w.subscript) })) None) (bit_there w.name (first w.subscript) k (count conn.pin.subscript port.width) lt)
          ∙ ap (λ (m : ℕ). Some (record { part = n; pin = conn.pin.name; bit = first conn.pin.subscript + m })) back
          ∙ ap (λ (m : ℕ). Some (record { part = m; pin = conn.pin.name; bit = first conn.pin.subscript + k })) number

      no_input : (w : Selection) → conn.source ≡ source.Net w → is_input chip w.name ≡ false
      unfolding text
      no_input w e = not_input_by w (width_in chip.chip.inputs w.name) refl (sym (ap (λ s. is_undrivable (right_side_of text s)) e) ∙ clear.0)

      constant_by : (b : Bool) → conn.source ≡ source.Constant b → ⊥
      constant_by b e = let g : true ≡ false = sym (ap (λ s. is_undrivable (right_side_of text s)) e) ∙ clear.0 in cc

      output_is : (k : ℕ) → k < count conn.pin.subscript port.width → (s : Source) → conn.source ≡ s → IsDriver (plan_of chips chip) chip i conn k s
      output_is k lt (source.Constant b) e = constant_by b e
      output_is k lt (source.Net w) e =
          let s = clear_parts w k e lt in
          (no_input w e, driver_at chips 0 w.name (first w.subscript + k) (parts_of chips chip) i part inner j conn _ there in_library here s.0 s.1 (place_by (0 + i) k w (zero-add i) e lt))

    -- an input
    module _ (input : port.input ≡ true) where
      feeding : feeding_fault text.chip conn (right_side_of text conn.source) (some_in (fed_by (Some port) conn) text.fed) ≡ None
      feeding = sym (ap (λ (b : Bool). cond b (feeding_fault text.chip conn (right_side_of text conn.source) (some_in (fed_by (Some port) conn) text.fed)) (driving_fault text.chip conn (right_side_of text conn.source) (some_in (bits_driven (driver_by (Some port) conn)) text.driven))) input) ∙ driven

      not_fed_by : (b : Bool) (t : NamedFault) (o : Option NamedFault) → cond b (Some t) o ≡ None → b ≡ false
      not_fed_by true t o h = absurd cc
      not_fed_by false t o h = refl

      not_fed : some_in (fed_by (Some port) conn) text.fed ≡ false
      not_fed = not_fed_by (some_in (fed_by (Some port) conn) text.fed) _ _ feeding

      fresh_bit : (k : ℕ) → k < count conn.pin.subscript port.width → is_in conn.pin.name (first conn.pin.subscript + k) (bits_fed (ports_of inner.chip) (take j part.connections)) ≡ false
      unfolding text
      fresh_bit k lt =
          bit_not_there conn.pin.name (first conn.pin.subscript) k (count conn.pin.subscript port.width) (bits_fed (ports_of inner.chip) (take j part.connections)) lt
          (ap (λ (bs : List BitOf). some_in bs (bits_fed (ports_of inner.chip) (take j part.connections))) (sym (fed_is port conn input)) ∙ not_fed)

      origin_is : (k : ℕ) → k < count conn.pin.subscript port.width → (plan_of chips chip).origin i conn.pin.name (first conn.pin.subscript + k) ≡ origin_of conn.source k
      origin_is k lt =
          let bit = first conn.pin.subscript + k in
          let name = conn.pin.name in
          let back : (first conn.pin.subscript + k) - first conn.pin.subscript ≡ k = omega arith in
          ap (λ o. unwrap_or (origin_at chips name bit o) Low) there
          ∙ ap (λ o. unwrap_or (origin_in name bit part.connections o) Low) in_library
          ∙ ap (λ o. unwrap_or o Low) (origin_here name bit (ports_of inner.chip) part.connections j conn (origin_of conn.source (bit - first conn.pin.subscript)) here (fresh_bit k lt)
          (ap (origin_by name bit conn) pin
          ∙ ap (λ (b : Bool). cond b (cond (is_in name bit (bits_of name (first conn.pin.subscript) (count conn.pin.subscript port.width))) (Some (origin_of conn.source (bit - first conn.pin.subscript))) None) None) input
          ∙ ap (λ (b : Bool). cond b (Some (origin_of conn.source (bit - first conn.pin.subscript))) None) (bit_there name (first conn.pin.subscript) k (count conn.pin.subscript port.width) lt)))
          ∙ ap (origin_of conn.source) back

-- an output of a part drives the bits of its net, and no other does
pub plan_output : (chips : Chips) (names : List (List ℕ)) (chip : Entry) → IsFaultless chips names chip → (i j k : ℕ) (part : Part) (inner : Entry) (conn : Connection) → slice_get (parts_of chips chip) i ≡ Some part → find_chip chips part.chip ≡ Some inner → slice_get part.connections j ≡ Some conn →
    is_input inner conn.pin.name ≡ false → k < count conn.pin.subscript (width_of inner conn.pin.name) → IsDriver (plan_of chips chip) chip i conn k conn.source
plan_output chips names chip faultless i j k part inner conn there in_library here output lt =
    let p = has_pin chips names chip faultless i j part inner conn there in_library here (find_value conn.pin.name (ports_of inner.chip)) refl in
    let is = port_is inner conn.pin.name p.0 p.1 in
    let lt' : k < count conn.pin.subscript p.0.width = subst (λ n. k < count conn.pin.subscript n) (sym is.wide) lt in
    output_is chips names chip faultless i j part inner conn there in_library here p.0 p.1 (is.way ∙ output) k lt' conn.source refl

-- an input bit of a part is fed by its connection, and by no other
pub plan_input : (chips : Chips) (names : List (List ℕ)) (chip : Entry) → IsFaultless chips names chip → (i j k : ℕ) (part : Part) (inner : Entry) (conn : Connection) → slice_get (parts_of chips chip) i ≡ Some part → find_chip chips part.chip ≡ Some inner → slice_get part.connections j ≡ Some conn →
    is_input inner conn.pin.name ≡ true → k < count conn.pin.subscript (width_of inner conn.pin.name) → (plan_of chips chip).origin i conn.pin.name (first conn.pin.subscript + k) ≡ origin_of conn.source k
plan_input chips names chip faultless i j k part inner conn there in_library here input lt =
    let p = has_pin chips names chip faultless i j part inner conn there in_library here (find_value conn.pin.name (ports_of inner.chip)) refl in
    let is = port_is inner conn.pin.name p.0 p.1 in
    let lt' : k < count conn.pin.subscript p.0.width = subst (λ n. k < count conn.pin.subscript n) (sym is.wide) lt in
    origin_is chips names chip faultless i j part inner conn there in_library here p.0 p.1 (is.way ∙ input) k lt'
