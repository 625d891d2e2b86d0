-- In a chip without faults what no connection reaches has no driver and no origin.
use Rattle.std.proofs.Common.{◌≡◌, ℕ, zero, suc, ◌+◌, ◌-◌, ◌<◌, ◌≤◌, ◌⊎◌, inl, inr, Bool, true, false, cond, ◌&&◌, ◌||◌, List, [], ◌∷◌, ◌++◌, length, take, map, Option, Some, None, refl, sym, ap, subst, ◌∙◌, arith, nat_eq}
use Rattle.std.specs.Prelude.{slice_get, is_some, unwrap_or, nat_le}
use Rattle.std.specs.Str.{bytes_eq}
use Rattle.std.specs.Cmp.Lexicographic.{bytes_decides}
use Rattle.std.proofs.lemmas.Bool.Decides.{Decides-eqb, leb_tells}
use Rattle.hdl_tree.specs.declared.tree.Pin.{Pin}
use Rattle.hdl_tree.specs.declared.tree.Source.{Source}
use Rattle.hdl_tree.specs.declared.tree.Source.TheVariants as source
use Rattle.hdl_tree.specs.declared.tree.Connection.{Connection}
use Rattle.hdl_tree.specs.declared.tree.Part.{Part}
use Rattle.hdl_tree.specs.declared.library.Entry.{Entry}
use Rattle.hdl_tree.specs.Chips.{Chips, end_of, find_chip, parts_of, pin_width, first, count}
use Rattle.hdl_tree.specs.Behaviour.{width_in, width_of, reaches, drives, drives_bits, some}
use Rattle.name_table.specs.Names.{find_value, first_of}
use Rattle.hdl_check.specs.Tables.{bits_of, is_in}
use Rattle.hdl_tree.specs.Writable.{is_among}
use Rattle.hdl_check.specs.declared.fault.NamedFault.{NamedFault}
use Rattle.hdl_check.specs.Faults.{ports_of, pin_name, pin_fault, twice_fault}
use Rattle.hdl_check.specs.Locations.{AtPin, unless, IsFaultless}
use Rattle.hdl_check.specs.declared.check.Port.{Port}
use Rattle.hdl_check.proofs.MarkLemmas.{is_in-append}
use Rattle.hdl_check.proofs.Telling.{output_fault}
use Rattle.hdl_plans.specs.Plans.{Place, Low, is_input, origin_of, IsPlan}
use Rattle.hdl_plans.specs.Planned.{output_from, output_by, output_among, output_in, output_of, origin_by, origin_among, origin_in, origin_at, plan_of}
use Rattle.hdl_plans.proofs.Sound.{port_is, as_port, found_ports, plan_output, plan_input}

pub or_cases : (a b : Bool) → (a || b) ≡ true → (a ≡ true) ⊎ (b ≡ true)
or_cases true b h = inl refl
or_cases false b h = inr h

and_both : (a b : Bool) → (a && b) ≡ true → (a ≡ true) × (b ≡ true)
and_both true b h = (refl, h)
and_both false b h = absurd cc

or_split : (a b : Bool) → (a || b) ≡ false → (a ≡ false) × (b ≡ false)
or_split true b h = absurd cc
or_split false b h = (refl, h)

-- a bit of n bits has their name and lies among them
pub record Lies (p : List ℕ) (f n : ℕ) (name : List ℕ) (bit : ℕ) : Type 0 where
  pub named : name ≡ p
  pub low : f ≤ bit
  pub high : bit < f + n

lies_by : (p : List ℕ) (f n : ℕ) (name : List ℕ) (bit : ℕ) → (is_in name bit (bits_of p f n) ≡ true) ⊎ (((bytes_eq name p && nat_eq bit (f + n)) || false) ≡ true) → (is_in name bit (bits_of p f n) ≡ true → Lies p f n name bit) → Lies p f (suc n) name bit
lies_by p f n name bit (inl h) go = let l = go h in record { named = l.named; low = l.low; high = omega (arith, l.high) }
lies_by p f n name bit (inr h) go = by (or_cases (bytes_eq name p && nat_eq bit (f + n)) false h)
  where
    by : ((bytes_eq name p && nat_eq bit (f + n)) ≡ true) ⊎ (false ≡ true) → Lies p f (suc n) name bit
    by (inr e) = absurd cc
    by (inl e) =
        let b = and_both (bytes_eq name p) (nat_eq bit (f + n)) e in
        let at : bit ≡ f + n = (Decides-eqb bit (f + n)).0 b.1 in
        record { named = (bytes_decides name p).0 b.0; low = omega arith; high = omega arith }

pub lies : (p : List ℕ) (f n : ℕ) (name : List ℕ) (bit : ℕ) → is_in name bit (bits_of p f n) ≡ true → Lies p f n name bit
lies p f zero name bit h = absurd cc
lies p f (suc n) name bit h =
    lies_by p f n name bit (or_cases (is_in name bit (bits_of p f n)) ((bytes_eq name p && nat_eq bit (f + n)) || false) (sym (is_in-append name bit (bits_of p f n) _) ∙ h)) (lies p f n name bit)

le_true : (a b : ℕ) → a ≤ b → nat_le a b ≡ true
le_true a b h = by (leb_tells a b)
  where
    by : ((nat_le a b ≡ true) × (a ≤ b)) ⊎ ((nat_le a b ≡ false) × (b < a)) → nat_le a b ≡ true
    by (inl k) = k.0
    by (inr k) = let lt : b < a = k.1 in absurd (omega arith)

both_true : (a b c : Bool) → a ≡ true → b ≡ true → c ≡ true → (a && (b && c)) ≡ true
both_true a b c e f g = ap (λ x. x && (b && c)) e ∙ ap (λ x. x && c) f ∙ g

pub within_true : (p : List ℕ) (f n : ℕ) (name : List ℕ) (bit : ℕ) → Lies p f n name bit → (bytes_eq p name && (nat_le f bit && nat_le (suc bit) (f + n))) ≡ true
within_true p f n name bit l = both_true (bytes_eq p name) (nat_le f bit) (nat_le (suc bit) (f + n)) ((bytes_decides p name).1 (sym l.named)) (le_true f bit l.low) (le_true (suc bit) (f + n) (omega (arith, l.high)))

-- ---- origins

no_origin : (inner : Entry) (name : List ℕ) (bit : ℕ) (conn : Connection) (port : Port) (b x : Bool) → find_value conn.pin.name (ports_of inner.chip) ≡ Some port → is_in name bit (bits_of conn.pin.name (first conn.pin.subscript) (count conn.pin.subscript port.width)) ≡ x → reaches inner name bit conn ≡ false →
    cond b (cond x (Some (origin_of conn.source (bit - first conn.pin.subscript))) None) None ≡ None
no_origin inner name bit conn port false x pin e r = refl
no_origin inner name bit conn port true false pin e r = refl
no_origin inner name bit conn port true true pin e r =
    let is = port_is inner conn.pin.name port pin in
    let l = lies conn.pin.name (first conn.pin.subscript) (count conn.pin.subscript port.width) name bit e in
    let t = within_true conn.pin.name (first conn.pin.subscript) (count conn.pin.subscript (width_of inner conn.pin.name)) name bit (subst (λ w. Lies conn.pin.name (first conn.pin.subscript) (count conn.pin.subscript w) name bit) is.wide l) in
    let f : true ≡ false = sym t ∙ r in absurd cc

no_origin_by : (inner : Entry) (name : List ℕ) (bit : ℕ) (conn : Connection) (o : Option Port) → find_value conn.pin.name (ports_of inner.chip) ≡ o → reaches inner name bit conn ≡ false → origin_by name bit conn o ≡ None
no_origin_by inner name bit conn None pin r = refl
no_origin_by inner name bit conn (Some port) pin r = no_origin inner name bit conn port port.input (is_in name bit (bits_of conn.pin.name (first conn.pin.subscript) (count conn.pin.subscript port.width))) pin refl r

no_origin_among : (inner : Entry) (name : List ℕ) (bit : ℕ) (conns : List Connection) → some (reaches inner name bit) conns ≡ false → origin_among name bit (ports_of inner.chip) conns ≡ None
no_origin_among inner name bit [] r = refl
no_origin_among inner name bit (c ∷ cs) r =
    let s = or_split (reaches inner name bit c) (some (reaches inner name bit) cs) r in
    ap (λ o. first_of o (origin_among name bit (ports_of inner.chip) cs)) (no_origin_by inner name bit c (find_value c.pin.name (ports_of inner.chip)) refl s.0) ∙ no_origin_among inner name bit cs s.1

pub plan_unjoined : (chips : Chips) (chip : Entry) (i bit : ℕ) (name : List ℕ) (part : Part) (inner : Entry) → slice_get (parts_of chips chip) i ≡ Some part → find_chip chips part.chip ≡ Some inner → some (reaches inner name bit) part.connections ≡ false → (plan_of chips chip).origin i name bit ≡ Low
plan_unjoined chips chip i bit name part inner there in_library r =
    ap (λ o. unwrap_or (origin_at chips name bit o) Low) there ∙ ap (λ o. unwrap_or (origin_in name bit part.connections o) Low) in_library
    ∙ ap (λ o. unwrap_or o Low) (no_origin_among inner name bit part.connections r)

-- ---- drivers

-- the width of an output
out_by : (a b : Option ℕ) (port : Port) → first_of (as_port true a) (as_port false b) ≡ Some port → port.input ≡ false → b ≡ Some port.width
out_by None None port h k = absurd cc
out_by None (Some w) port h k = let p : record { input = false; width = w } ≡ port = cc in ap (λ (x : Port). Some x.width) p
out_by (Some w) b port h k = let p : record { input = true; width = w } ≡ port = cc in let f : true ≡ false = ap (λ (x : Port). x.input) p ∙ k in absurd cc

pub out_width : (inner : Entry) (name : List ℕ) (port : Port) → find_value name (ports_of inner.chip) ≡ Some port → port.input ≡ false → width_in inner.chip.outputs name ≡ Some port.width
out_width inner name port h k = out_by (width_in inner.chip.inputs name) (width_in inner.chip.outputs name) port (sym (found_ports inner.chip name) ∙ h) k

no_driver_from : (i : ℕ) (name : List ℕ) (bit : ℕ) (conn : Connection) (n : ℕ) (s : Source) → drives_bits name bit n s ≡ false → output_from i name bit conn n s ≡ None
no_driver_from i name bit conn n (source.Constant b) h = refl
no_driver_from i name bit conn n (source.Net w) h = by (is_in name bit (bits_of w.name (first w.subscript) n)) refl
  where
    by : (x : Bool) → is_in name bit (bits_of w.name (first w.subscript) n) ≡ x → cond {A = Option Place} x (Some (record { part = i; pin = conn.pin.name; bit = first conn.pin.subscript + (bit - first w.subscript) })) None ≡ None
    by false e = refl
    by true e = let t = within_true w.name (first w.subscript) n name bit (lies w.name (first w.subscript) n name bit e) in let f : true ≡ false = sym t ∙ h in absurd cc

abbrev pub drives_conn : Entry → List ℕ → ℕ → Connection → Option ℕ → Bool
drives_conn inner name bit conn o = elim o [ None ↦ false | Some width ↦ drives_bits name bit (count conn.pin.subscript width) conn.source ]

no_driver_way : (inner : Entry) (i : ℕ) (name : List ℕ) (bit : ℕ) (conn : Connection) (port : Port) (b : Bool) → port.input ≡ b → find_value conn.pin.name (ports_of inner.chip) ≡ Some port → drives_conn inner name bit conn (width_in inner.chip.outputs conn.pin.name) ≡ false →
    cond b None (output_from i name bit conn (count conn.pin.subscript port.width) conn.source) ≡ None
no_driver_way inner i name bit conn port true w pin r = refl
no_driver_way inner i name bit conn port false w pin r =
    no_driver_from i name bit conn (count conn.pin.subscript port.width) conn.source (sym (ap (drives_conn inner name bit conn) (out_width inner conn.pin.name port pin w)) ∙ r)

no_driver_by : (inner : Entry) (i : ℕ) (name : List ℕ) (bit : ℕ) (conn : Connection) (o : Option Port) → find_value conn.pin.name (ports_of inner.chip) ≡ o → drives_conn inner name bit conn (width_in inner.chip.outputs conn.pin.name) ≡ false → output_by i name bit conn o ≡ None
no_driver_by inner i name bit conn None pin r = refl
no_driver_by inner i name bit conn (Some port) pin r = no_driver_way inner i name bit conn port port.input refl pin r

no_driver_among : (inner : Entry) (i : ℕ) (name : List ℕ) (bit : ℕ) (conns : List Connection) → some (λ conn. drives_conn inner name bit conn (width_in inner.chip.outputs conn.pin.name)) conns ≡ false → output_among i name bit (ports_of inner.chip) conns ≡ None
no_driver_among inner i name bit [] r = refl
no_driver_among inner i name bit (c ∷ cs) r =
    let s = or_split (drives_conn inner name bit c (width_in inner.chip.outputs c.pin.name)) (some (λ conn. drives_conn inner name bit conn (width_in inner.chip.outputs conn.pin.name)) cs) r in
    ap (λ o. first_of o (output_among i name bit (ports_of inner.chip) cs)) (no_driver_by inner i name bit c (find_value c.pin.name (ports_of inner.chip)) refl s.0) ∙ no_driver_among inner i name bit cs s.1

abbrev pub drives_in : List ℕ → ℕ → List Connection → Option Entry → Bool
drives_in name bit conns o = elim o [ None ↦ false | Some inner ↦ some (λ conn. drives_conn inner name bit conn (width_in inner.chip.outputs conn.pin.name)) conns ]

no_driver_in : (i : ℕ) (name : List ℕ) (bit : ℕ) (conns : List Connection) (o : Option Entry) → drives_in name bit conns o ≡ false → output_in i name bit conns o ≡ None
no_driver_in i name bit conns None r = refl
no_driver_in i name bit conns (Some inner) r = no_driver_among inner i name bit conns r

no_driver : (chips : Chips) (i : ℕ) (name : List ℕ) (bit : ℕ) (parts : List Part) → some (drives chips name bit) parts ≡ false → output_of chips i name bit parts ≡ None
no_driver chips i name bit [] r = refl
no_driver chips i name bit (p ∷ ps) r =
    let s = or_split (drives chips name bit p) (some (drives chips name bit) ps) r in
    ap (λ o. first_of o (output_of chips (suc i) name bit ps)) (no_driver_in i name bit p.connections (find_chip chips p.chip) s.0) ∙ no_driver chips (suc i) name bit ps s.1

-- ---- an output is no input

pub record PinOf (pins : List Pin) (name : List ℕ) : Type 0 where
  pub place : ℕ
  pub pin : Pin
  pub there : slice_get pins place ≡ Some pin
  pub named : name ≡ pin_name pin

pin_by : (p : Pin) (ps : List Pin) (name : List ℕ) (w : ℕ) (b : Bool) → bytes_eq name p.name ≡ b → cond b (Some (pin_width p)) (width_in ps name) ≡ Some w → (width_in ps name ≡ Some w → PinOf ps name) → PinOf (p ∷ ps) name
pin_by p ps name w true e h go = record { place = 0; pin = p; there = refl; named = (bytes_decides name p.name).0 e }
pin_by p ps name w false e h go = let r = go h in record { place = suc r.place; pin = r.pin; there = r.there; named = r.named }

pin_of : (pins : List Pin) (name : List ℕ) (w : ℕ) → width_in pins name ≡ Some w → PinOf pins name
pin_of [] name w h = absurd cc
pin_of (p ∷ ps) name w h = pin_by p ps name w (bytes_eq name p.name) refl h (pin_of ps name w)

absent_by : (p : Pin) (name : List ℕ) (b : Bool) (rest : Bool) (o : Option ℕ) → (b || rest) ≡ false → (rest ≡ false → o ≡ None) → cond b (Some (pin_width p)) o ≡ None
absent_by p name true rest o h go = absurd cc
absent_by p name false rest o h go = go h

-- a name that is not among those of the pins has no width
absent : (pins qs : List Pin) (name : List ℕ) → is_among name (map pin_name (pins ++ qs)) ≡ false → width_in pins name ≡ None
absent [] qs name h = refl
absent (p ∷ ps) qs name h = absent_by p name (bytes_eq name (pin_name p)) (is_among name (map pin_name (ps ++ qs))) (width_in ps name) h (absent ps qs name)

not_twice : (b : Bool) (t : NamedFault) → cond b (Some t) None ≡ None → b ≡ false
not_twice true t h = absurd cc
not_twice false t h = refl

pub output_is_no_input : (chips : Chips) (names : List (List ℕ)) (chip : Entry) → IsFaultless chips names chip → end_of chips.memories chip ≡ None → (name : List ℕ) (w : ℕ) → width_in chip.chip.outputs name ≡ Some w → is_input chip name ≡ false
output_is_no_input chips names chip faultless no_end name w h =
    let o = pin_of chip.chip.outputs name w h in
    let ins = chip.chip.inputs in
    let outs = chip.chip.outputs in
    let right : pin_fault chip (length ins + o.place) ≡ None = sym (ap (λ e. unless e (pin_fault chip (length ins + o.place))) no_end) ∙ faultless (AtPin (length ins + o.place)) in
    let twice : twice_fault chip.name (map pin_name (ins ++ take o.place outs)) (Some o.pin) ≡ None = sym (output_fault chip o.place ∙ ap (twice_fault chip.name (map pin_name (ins ++ take o.place outs))) o.there) ∙ right in
    let new : is_among (pin_name o.pin) (map pin_name (ins ++ take o.place outs)) ≡ false = not_twice _ _ twice in
    ap is_some (absent ins (take o.place outs) name (ap (λ n. is_among n (map pin_name (ins ++ take o.place outs))) o.named ∙ new))

-- a chip without faults that is no end has the plan of its text
pub faultless_plan : (chips : Chips) (names : List (List ℕ)) (chip : Entry) → IsFaultless chips names chip → end_of chips.memories chip ≡ None → IsPlan chips chip (plan_of chips chip)
faultless_plan chips names chip faultless no_end = record {
  output = λ i j k part inner conn there find_value here way lt. plan_output chips names chip faultless i j k part inner conn there find_value here way lt;
  input = λ i j k part inner conn there find_value here way lt. plan_input chips names chip faultless i j k part inner conn there find_value here way lt;
  unjoined = λ i width bit name part inner there find_value w lt none. plan_unjoined chips chip i bit name part inner there find_value none;
  undriven = λ width bit name w lt none. (output_is_no_input chips names chip faultless no_end name width w, no_driver chips 0 name bit (parts_of chips chip) none);
}
