-- In a chip without faults each bit that feeds a part is an input bit of the chip, or a part drives it.
use Rattle.std.proofs.Common.{◌≡◌, ℕ, zero, suc, ◌+◌, ◌<◌, ◌⊎◌, inl, inr, Bool, true, false, cond, not, ◌&&◌, ◌||◌, List, [], ◌∷◌, ◌++◌, Option, Some, None, refl, sym, ap, subst, ◌∙◌, arith, nat_eq}
use Rattle.std.specs.Prelude.{slice_get, is_some}
use Rattle.std.specs.Str.{bytes_eq}
use Rattle.std.specs.Cmp.Lexicographic.{bytes_decides}
use Rattle.std.proofs.lemmas.Bool.Decides.{Decides-eqb}
use Rattle.hdl_tree.specs.declared.tree.Selection.{Selection}
use Rattle.hdl_tree.specs.declared.tree.Subscript.{Subscript}
use Rattle.hdl_tree.specs.declared.tree.Source.{Source}
use Rattle.hdl_tree.specs.declared.tree.Source.TheVariants as source
use Rattle.hdl_tree.specs.declared.tree.Connection.{Connection}
use Rattle.hdl_tree.specs.declared.tree.Part.{Part}
use Rattle.hdl_tree.specs.declared.library.Entry.{Entry}
use Rattle.hdl_tree.specs.Chips.{Chips, find_chip, parts_of, first, count, is_past}
use Rattle.hdl_tree.specs.Behaviour.{width_in, width_of, drives, drives_bits, some}
use Rattle.name_table.specs.Names.{find_value, first_of}
use Rattle.hdl_check.specs.declared.fault.NamedFault.{NamedFault}
use Rattle.hdl_check.specs.declared.check.Port.{Port}
use Rattle.hdl_check.specs.Faults.{Context, context, Driver, driver_into, driver_by, drivers_by, drivers_of_inner, drivers_of, widths_of, net_width, ports_of, right_side_of, right_side_of_name, is_wide, is_output, is_undriven, width_fault, driven_fault, undriven_fault, wiring_fault, wiring_fault_by, connection_fault_at, connection_fault_by}
use Rattle.hdl_check.specs.Locations.{AtConnection, fault_of_connection, IsFaultless}
use Rattle.hdl_plans.specs.Plans.{is_input}
use Rattle.hdl_plans.specs.Ways.{HasBit}
use Rattle.hdl_plans.proofs.Sound.{found_ports, port_is}
use Rattle.hdl_plans.proofs.Fits.{not_past, bit_by}
use Rattle.hdl_plans.proofs.Unjoined.{out_width, within_true, drives_conn, drives_in}

-- ---- small facts

or_both : (a b : Bool) → (a || b) ≡ false → (a ≡ false) × (b ≡ false)
or_both true b h = absurd cc
or_both false b h = (refl, h)

or_true : (a b : Bool) → b ≡ true → (a || b) ≡ true
or_true true b h = refl
or_true false b h = h

not_false : (a : Bool) → not a ≡ false → a ≡ true
not_false true h = refl
not_false false h = absurd cc

both_none : (a b : Option NamedFault) → first_of a b ≡ None → (a ≡ None) × (b ≡ None)
both_none None b h = (refl, h)
both_none (Some a) b h = absurd cc

second_test : (p q : Bool) (s t : NamedFault) → cond p (Some s) (cond q (Some t) None) ≡ None → q ≡ false
second_test true q s t h = absurd cc
second_test false true s t h = absurd cc
second_test false false s t h = refl

not_told : (b : Bool) (t : NamedFault) → cond b (Some t) None ≡ None → b ≡ false
not_told true t h = absurd cc
not_told false t h = refl

first_cases : {X : Type 0} (a b : Option X) (x : X) → first_of a b ≡ Some x → (a ≡ Some x) ⊎ (b ≡ Some x)
first_cases None b x e = inr e
first_cases (Some a) b x e = inl e

-- ---- some item of a list

pub record ItemAt {X : Type 0} (test : X → Bool) (xs : List X) : Type 0 where
  pub at : ℕ
  pub item : X
  pub there : slice_get xs at ≡ Some item
  pub holds : test item ≡ true

item_by : {X : Type 0} (test : X → Bool) (x : X) (xs : List X) (b : Bool) → test x ≡ b → (b || some test xs) ≡ true → (some test xs ≡ true → ItemAt test xs) → ItemAt test (x ∷ xs)
item_by test x xs true e h go = record { at = 0; item = x; there = refl; holds = e }
item_by test x xs false e h go = let r = go h in record { at = suc r.at; item = r.item; there = r.there; holds = r.holds }

pub item_of : {X : Type 0} (test : X → Bool) (xs : List X) → some test xs ≡ true → ItemAt test xs
item_of test [] h = absurd cc
item_of test (x ∷ xs) h = item_by test x xs (test x) refl h (λ g. item_of test xs g)

some_at : {X : Type 0} (test : X → Bool) (xs : List X) (j : ℕ) (x : X) → slice_get xs j ≡ Some x → test x ≡ true → some test xs ≡ true
some_at test [] j x e h = absurd cc
some_at test (y ∷ ys) zero x e h = let same : y ≡ x = cc in ap (λ (b : Bool). b || some test ys) (ap test same ∙ h)
some_at test (y ∷ ys) (suc j) x e h = or_true (test y) (some test ys) (some_at test ys j x e h)

-- ---- the connection that gives a net its width

record DrivesNet (inner : Entry) (conn : Connection) (name : List ℕ) (wide : ℕ) : Type 0 where
  port : Port
  pin : find_value conn.pin.name (ports_of inner.chip) ≡ Some port
  output : port.input ≡ false
  w : Selection
  right : conn.source ≡ source.Net w
  named : name ≡ w.name
  many : count conn.pin.subscript port.width ≡ wide

record AmongConnections (inner : Entry) (conns : List Connection) (name : List ℕ) (wide : ℕ) : Type 0 where
  j : ℕ
  conn : Connection
  here : slice_get conns j ≡ Some conn
  of : DrivesNet inner conn name wide

record AmongParts (chips : Chips) (parts : List Part) (name : List ℕ) (wide : ℕ) : Type 0 where
  i : ℕ
  part : Part
  inner : Entry
  there : slice_get parts i ≡ Some part
  found_in : find_chip chips part.chip ≡ Some inner
  of : AmongConnections inner part.connections name wide

cond_first : (b : Bool) (w : ℕ) (o p : Option ℕ) → cond b (Some w) (first_of o p) ≡ first_of (cond b (Some w) o) p
cond_first true w o p = refl
cond_first false w o p = refl

widths_append : (name : List ℕ) (xs ys : List Driver) → find_value name (widths_of (xs ++ ys)) ≡ first_of (find_value name (widths_of xs)) (find_value name (widths_of ys))
widths_append name [] ys = refl
widths_append name (x ∷ xs) ys =
    ap (λ (o : Option ℕ). cond (bytes_eq name x.net) (Some x.count) o) (widths_append name xs ys)
    ∙ cond_first (bytes_eq name x.net) x.count (find_value name (widths_of xs)) (find_value name (widths_of ys))

in_source : (name : List ℕ) (n wide : ℕ) (s : Source) → find_value name (widths_of (driver_into n s)) ≡ Some wide → (w : Selection) × (s ≡ source.Net w) × (name ≡ w.name) × (n ≡ wide)
in_source name n wide (source.Constant b) e = absurd cc
in_source name n wide (source.Net w) e = by (bytes_eq name w.name) refl e
  where
    by : (b : Bool) → bytes_eq name w.name ≡ b → cond {A = Option ℕ} b (Some n) None ≡ Some wide → (v : Selection) × (source.Net w ≡ source.Net v) × (name ≡ v.name) × (n ≡ wide)
    by true f g = (w, refl, (bytes_decides name w.name).0 f, cc)
    by false f g = absurd cc

in_port : (inner : Entry) (conn : Connection) (name : List ℕ) (wide : ℕ) (port : Port) (b : Bool) → find_value conn.pin.name (ports_of inner.chip) ≡ Some port → port.input ≡ b → find_value name (widths_of (cond b [] (driver_into (count conn.pin.subscript port.width) conn.source))) ≡ Some wide → DrivesNet inner conn name wide
in_port inner conn name wide port true pin way e = absurd cc
in_port inner conn name wide port false pin way e =
    let r = in_source name (count conn.pin.subscript port.width) wide conn.source e in
    record { port = port; pin = pin; output = way; w = r.0; right = r.1; named = r.2; many = r.3 }

in_pin : (inner : Entry) (conn : Connection) (name : List ℕ) (wide : ℕ) (o : Option Port) → find_value conn.pin.name (ports_of inner.chip) ≡ o → find_value name (widths_of (driver_by o conn)) ≡ Some wide → DrivesNet inner conn name wide
in_pin inner conn name wide None pin e = absurd cc
in_pin inner conn name wide (Some port) pin e = in_port inner conn name wide port port.input pin refl e

in_connections_by : (inner : Entry) (name : List ℕ) (wide : ℕ) (conn : Connection) (conns : List Connection) → (find_value name (widths_of (driver_by (find_value conn.pin.name (ports_of inner.chip)) conn)) ≡ Some wide) ⊎ (find_value name (widths_of (drivers_by (ports_of inner.chip) conns)) ≡ Some wide) → (find_value name (widths_of (drivers_by (ports_of inner.chip) conns)) ≡ Some wide → AmongConnections inner conns name wide) → AmongConnections inner (conn ∷ conns) name wide
in_connections_by inner name wide conn conns (inl e) go = record { j = 0; conn = conn; here = refl; of = in_pin inner conn name wide (find_value conn.pin.name (ports_of inner.chip)) refl e }
in_connections_by inner name wide conn conns (inr e) go = let r = go e in record { j = suc r.j; conn = r.conn; here = r.here; of = r.of }

in_connections : (inner : Entry) (name : List ℕ) (wide : ℕ) (conns : List Connection) → find_value name (widths_of (drivers_by (ports_of inner.chip) conns)) ≡ Some wide → AmongConnections inner conns name wide
in_connections inner name wide [] e = absurd cc
in_connections inner name wide (conn ∷ conns) e =
    in_connections_by inner name wide conn conns
    (first_cases (find_value name (widths_of (driver_by (find_value conn.pin.name (ports_of inner.chip)) conn))) (find_value name (widths_of (drivers_by (ports_of inner.chip) conns))) wide
    (sym (widths_append name (driver_by (find_value conn.pin.name (ports_of inner.chip)) conn) (drivers_by (ports_of inner.chip) conns)) ∙ e))
    (λ h. in_connections inner name wide conns h)

in_part : (chips : Chips) (name : List ℕ) (wide : ℕ) (part : Part) (parts : List Part) (o : Option Entry) → find_chip chips part.chip ≡ o → find_value name (widths_of (drivers_of_inner o part.connections)) ≡ Some wide → AmongParts chips (part ∷ parts) name wide
in_part chips name wide part parts None f e = absurd cc
in_part chips name wide part parts (Some inner) f e = record { i = 0; part = part; inner = inner; there = refl; found_in = f; of = in_connections inner name wide part.connections e }

in_parts_by : (chips : Chips) (name : List ℕ) (wide : ℕ) (part : Part) (parts : List Part) → (find_value name (widths_of (drivers_of_inner (find_chip chips part.chip) part.connections)) ≡ Some wide) ⊎ (find_value name (widths_of (drivers_of chips parts)) ≡ Some wide) → (find_value name (widths_of (drivers_of chips parts)) ≡ Some wide → AmongParts chips parts name wide) → AmongParts chips (part ∷ parts) name wide
in_parts_by chips name wide part parts (inl e) go = in_part chips name wide part parts (find_chip chips part.chip) refl e
in_parts_by chips name wide part parts (inr e) go = let r = go e in record { i = suc r.i; part = r.part; inner = r.inner; there = r.there; found_in = r.found_in; of = r.of }

in_parts : (chips : Chips) (name : List ℕ) (wide : ℕ) (parts : List Part) → find_value name (widths_of (drivers_of chips parts)) ≡ Some wide → AmongParts chips parts name wide
in_parts chips name wide [] e = absurd cc
in_parts chips name wide (part ∷ parts) e =
    in_parts_by chips name wide part parts
    (first_cases (find_value name (widths_of (drivers_of_inner (find_chip chips part.chip) part.connections))) (find_value name (widths_of (drivers_of chips parts))) wide
    (sym (widths_append name (drivers_of_inner (find_chip chips part.chip) part.connections) (drivers_of chips parts)) ∙ e))
    (λ h. in_parts chips name wide parts h)

-- an input bit of the chip, or one that a part drives
abbrev pub Sourced : Chips → Entry → List ℕ → ℕ → Type 0
Sourced chips chip name bit = HasBit chip.chip.inputs name bit ⊎ (some (drives chips name bit) (parts_of chips chip) ≡ true)

-- ---- what a connection without faults has

no_subscript : (s : Option Subscript) → is_some s ≡ false → first s ≡ 0
no_subscript None h = refl
no_subscript (Some x) h = absurd cc

module _ (chips : Chips) (names : List (List ℕ)) (chip : Entry) (faultless : IsFaultless chips names chip) where
  abbrev text_at : ℕ → ℕ → Part → Entry → Context
  text_at i j part inner = context chips chip i (ports_of inner.chip) part.connections j

  module _ (i j : ℕ) (part : Part) (inner : Entry) (conn : Connection) (there : slice_get (parts_of chips chip) i ≡ Some part) (in_library : find_chip chips part.chip ≡ Some inner) (here : slice_get part.connections j ≡ Some conn) (port : Port) (pin : find_value conn.pin.name (ports_of inner.chip) ≡ Some port) where
    wired : wiring_fault (text_at i j part inner) port conn ≡ None
    wired =
        sym (ap (λ o. fault_of_connection chips chip i o j) there ∙ ap (connection_fault_by chips chip i part j) in_library ∙ ap (connection_fault_at (text_at i j part inner) (ports_of inner.chip)) here ∙ ap (wiring_fault_by (text_at i j part inner) conn) pin)
        ∙ faultless (AtConnection i j)

    parts_fine : (width_fault chip.name port conn (right_side_of (text_at i j part inner) conn.source) ≡ None) × (first_of (driven_fault (text_at i j part inner) port conn (right_side_of (text_at i j part inner) conn.source)) (undriven_fault chip.name port conn (right_side_of (text_at i j part inner) conn.source)) ≡ None)
    parts_fine = both_none _ _ wired

    not_wide : is_wide (right_side_of (text_at i j part inner) conn.source) conn.source (count conn.pin.subscript port.width) ≡ false
    not_wide = second_test _ _ _ _ parts_fine.0

    module _ (input : port.input ≡ true) where
      rest_fine : (driven_fault (text_at i j part inner) port conn (right_side_of (text_at i j part inner) conn.source) ≡ None) × (undriven_fault chip.name port conn (right_side_of (text_at i j part inner) conn.source) ≡ None)
      rest_fine = both_none _ _ parts_fine.1

      by_way : (b : Bool) (f g : Option NamedFault) → b ≡ true → cond b f g ≡ None → f ≡ None
      by_way true f g e h = h
      by_way false f g e h = absurd cc

      no_output : is_output (right_side_of (text_at i j part inner) conn.source) ≡ false
      no_output = second_test _ _ _ _ (by_way port.input _ _ input rest_fine.0)

      is_driven : is_undriven (right_side_of (text_at i j part inner) conn.source) ≡ false
      is_driven = sym (ap (λ (b : Bool). b && is_undriven (right_side_of (text_at i j part inner) conn.source)) input) ∙ not_told _ _ rest_fine.1

  -- a bit of an internal net
  net_driven : (name : List ℕ) (wide bit : ℕ) → find_value name (ports_of chip.chip) ≡ None → net_width name (drivers_of chips (parts_of chips chip)) ≡ Some wide → bit < wide → some (drives chips name bit) (parts_of chips chip) ≡ true
  net_driven name wide bit own e lt =
      let d = in_parts chips name wide (parts_of chips chip) e in
      let c = d.of in
      let o = c.of in
      let n = count c.conn.pin.subscript o.port.width in
      let text = context chips chip d.i (ports_of d.inner.chip) d.part.connections c.j in
      let plain : is_wide (right_side_of text c.conn.source) c.conn.source (count c.conn.pin.subscript o.port.width) ≡ false = not_wide d.i c.j d.part d.inner c.conn d.there d.found_in c.here o.port o.pin in
      let net : is_wide (right_side_of_name (find_value o.w.name (ports_of chip.chip)) (net_width o.w.name (drivers_of chips (parts_of chips chip)))) (source.Net o.w) (count c.conn.pin.subscript o.port.width) ≡ false =
      sym (ap (λ (s : Source). is_wide (right_side_of text s) s (count c.conn.pin.subscript o.port.width)) o.right) ∙ plain in
      let none : find_value o.w.name (ports_of chip.chip) ≡ None = ap (λ (x : List ℕ). find_value x (ports_of chip.chip)) (sym o.named) ∙ own in
      let bare = or_both _ _ (sym (ap (λ (p : Option Port). is_wide (right_side_of_name p (net_width o.w.name (drivers_of chips (parts_of chips chip)))) (source.Net o.w) (count c.conn.pin.subscript o.port.width)) none) ∙ net) in
      let low = no_subscript o.w.subscript bare.0 in
      let many = o.many in
      some_at (drives chips name bit) (parts_of chips chip) d.i d.part d.there
      (ap (drives_in name bit d.part.connections) d.found_in
      ∙ some_at (λ (x : Connection). drives_conn d.inner name bit x (width_in d.inner.chip.outputs x.pin.name)) d.part.connections c.j c.conn c.here
      (ap (drives_conn d.inner name bit c.conn) (out_width d.inner c.conn.pin.name o.port o.pin o.output)
      ∙ ap (drives_bits name bit (count c.conn.pin.subscript o.port.width)) o.right
      ∙ within_true o.w.name (first o.w.subscript) (count c.conn.pin.subscript o.port.width) name bit (record { named = o.named; low = omega arith; high = omega arith })))

  source_by : (w : Selection) (k n : ℕ) (own : Option Port) (wide : Option ℕ) → find_value w.name (ports_of chip.chip) ≡ own → net_width w.name (drivers_of chips (parts_of chips chip)) ≡ wide → k < n →
      is_wide (right_side_of_name own wide) (source.Net w) n ≡ false → is_output (right_side_of_name own wide) ≡ false → is_undriven (right_side_of_name own wide) ≡ false → Sourced chips chip w.name (first w.subscript + k)
  source_by w k n (Some port) wide e f lt fits no_output driven =
      let two = or_both (is_past w.subscript port.width) (not (nat_eq (count w.subscript port.width) n)) fits in
      let many : count w.subscript port.width ≡ n = (Decides-eqb (count w.subscript port.width) n).0 (not_false _ two.1) in
      let input : port.input ≡ true = not_false port.input no_output in
      let way = (port_is chip w.name port e).way in
      inl (bit_by chip w.name (first w.subscript + k) port true (width_in chip.chip.inputs w.name) (width_in chip.chip.outputs w.name) refl refl (sym way ∙ input) (sym (found_ports chip.chip w.name) ∙ e)
      (not_past w.subscript port.width k two.0 (subst (λ (x : ℕ). k < x) (sym many) lt)))
  source_by w k n None None e f lt fits no_output driven = absurd cc
  source_by w k n None (Some wide) e f lt fits no_output driven =
      let two = or_both (is_some w.subscript) (not (nat_eq wide n)) fits in
      let many : wide ≡ n = (Decides-eqb wide n).0 (not_false _ two.1) in
      let low = no_subscript w.subscript two.0 in
      inr (net_driven w.name wide (first w.subscript + k) e f (omega arith))

  -- the bit of a net or pin of the chip that feeds a bit of a part's input
  pub source_of : (i j k : ℕ) (part : Part) (inner : Entry) (conn : Connection) (w : Selection) → slice_get (parts_of chips chip) i ≡ Some part → find_chip chips part.chip ≡ Some inner → slice_get part.connections j ≡ Some conn → is_input inner conn.pin.name ≡ true → conn.source ≡ source.Net w → k < count conn.pin.subscript (width_of inner conn.pin.name) → Sourced chips chip w.name (first w.subscript + k)
  source_of i j k part inner conn w there in_library here way right lt = by (find_value conn.pin.name (ports_of inner.chip)) refl
    where
      by : (o : Option Port) → find_value conn.pin.name (ports_of inner.chip) ≡ o → Sourced chips chip w.name (first w.subscript + k)
      by None pin =
          let h = sym (ap (λ o. fault_of_connection chips chip i o j) there ∙ ap (connection_fault_by chips chip i part j) in_library ∙ ap (connection_fault_at (text_at i j part inner) (ports_of inner.chip)) here ∙ ap (wiring_fault_by (text_at i j part inner) conn) pin) ∙ faultless (AtConnection i j) in
          absurd cc
      by (Some port) pin =
          let is = port_is inner conn.pin.name port pin in
          let input : port.input ≡ true = is.way ∙ way in
          let wide = is.wide in
          source_by w k (count conn.pin.subscript port.width) (find_value w.name (ports_of chip.chip)) (net_width w.name (drivers_of chips (parts_of chips chip))) refl refl
          (subst (λ (x : ℕ). k < count conn.pin.subscript x) (sym wide) lt)
          (sym (ap (λ (s : Source). is_wide (right_side_of (text_at i j part inner) s) s (count conn.pin.subscript port.width)) right) ∙ not_wide i j part inner conn there in_library here port pin)
          (sym (ap (λ (s : Source). is_output (right_side_of (text_at i j part inner) s)) right) ∙ no_output i j part inner conn there in_library here port pin input)
          (sym (ap (λ (s : Source). is_undriven (right_side_of (text_at i j part inner) s)) right) ∙ is_driven i j part inner conn there in_library here port pin input)
