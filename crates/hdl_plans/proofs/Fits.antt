-- In a chip without faults connections join bits of pins that the parts have.
use Rattle.std.proofs.Common.{◌≡◌, ℕ, ◌+◌, ◌<◌, ◌≤◌, ◌⊎◌, inl, inr, Bool, true, false, cond, List, [], ◌∷◌, Option, Some, None, refl, sym, ap, subst, ◌∙◌, arith}
use Rattle.std.specs.Prelude.{slice_get, is_some, nat_le}
use Rattle.std.proofs.lemmas.Bool.Decides.{leb_tells}
use Rattle.hdl_tree.specs.declared.tree.Part.{Part}
use Rattle.hdl_tree.specs.declared.tree.Connection.{Connection}
use Rattle.hdl_tree.specs.declared.tree.Subscript.{Subscript}
use Rattle.hdl_tree.specs.declared.tree.Subscript.TheVariants as subscript
use Rattle.hdl_tree.specs.declared.library.Entry.{Entry}
use Rattle.hdl_tree.specs.Chips.{Chips, find_chip, parts_of, first, count, is_past}
use Rattle.hdl_tree.specs.Behaviour.{chip_of, width_in, width_of}
use Rattle.name_table.specs.Names.{find_value, first_of}
use Rattle.hdl_check.specs.declared.fault.NamedFault.{NamedFault}
use Rattle.hdl_check.specs.Faults.{Context, context, ports_of, right_side_of, width_fault, wiring_fault_by, connection_fault, connection_fault_at, connection_fault_by}
use Rattle.hdl_check.specs.Locations.{AtConnection, Inside, at_inner, inner_of, fault_of_connection, fault_at, IsFaultless}
use Rattle.hdl_check.specs.declared.check.Port.{Port}
use Rattle.hdl_plans.specs.Plans.{is_input}
use Rattle.hdl_plans.proofs.Sound.{as_port, found_ports, port_is}
use Rattle.hdl_plans.specs.Ways.{HasBit, pins_on, JointsFit, TreeFits}
use Rattle.hdl_plans.proofs.Walks.{at_part}

above : (w j : ℕ) → nat_le w j ≡ false → j < w
above w j h = by (leb_tells w j)
  where
    by : ((nat_le w j ≡ true) × (w ≤ j)) ⊎ ((nat_le w j ≡ false) × (j < w)) → j < w
    by (inl p) = let f : true ≡ false = sym p.0 ∙ h in absurd cc
    by (inr p) = p.1

pub not_past : (s : Option Subscript) (w k : ℕ) → is_past s w ≡ false → k < count s w → first s + k < w
not_past None w k h lt = omega arith
not_past (Some (subscript.Bit j)) w k h lt = let n = above w j h in omega (arith, lt, n)
not_past (Some (subscript.Bits a b)) w k h lt = let n = above w b h in omega (arith, lt, n)

first_none : (a b : Option NamedFault) → first_of a b ≡ None → a ≡ None
first_none None b h = refl
first_none (Some a) b h = absurd cc

not_told : (b : Bool) (t : NamedFault) (o : Option NamedFault) → cond b (Some t) o ≡ None → b ≡ false
not_told true t o h = absurd cc
not_told false t o h = refl

-- the pin of a port
pub bit_by : (inner : Entry) (name : List ℕ) (bit : ℕ) (port : Port) (input : Bool) (a b : Option ℕ) → width_in inner.chip.inputs name ≡ a → width_in inner.chip.outputs name ≡ b → is_some a ≡ input → first_of (as_port true a) (as_port false b) ≡ Some port → bit < port.width → HasBit (pins_on input inner) name bit
bit_by inner name bit port true None b e f g h lt = absurd cc
bit_by inner name bit port true (Some w) b e f g h lt = let p : w ≡ port.width = (let q : record { input = true; width = w } ≡ port = cc in ap (λ (x : Port). x.width) q) in record { width = w; there = e; below = subst (λ v. bit < v) (sym p) lt }
bit_by inner name bit port false (Some w) b e f g h lt = absurd cc
bit_by inner name bit port false None None e f g h lt = absurd cc
bit_by inner name bit port false None (Some w) e f g h lt = let p : w ≡ port.width = (let q : record { input = false; width = w } ≡ port = cc in ap (λ (x : Port). x.width) q) in record { width = w; there = f; below = subst (λ v. bit < v) (sym p) lt }

fits_by : (chips : Chips) (text : Context) (inner : Entry) (conn : Connection) (k : ℕ) (input : Bool) (o : Option Port) → find_value conn.pin.name (ports_of inner.chip) ≡ o → wiring_fault_by text conn o ≡ None → is_input inner conn.pin.name ≡ input → k < count conn.pin.subscript (width_of inner conn.pin.name) →
    HasBit (pins_on input inner) conn.pin.name (first conn.pin.subscript + k)
fits_by chips text inner conn k input None e right way lt = absurd cc
fits_by chips text inner conn k input (Some port) e right way lt =
    let wide = (port_is inner conn.pin.name port e).wide in
    let past : is_past conn.pin.subscript port.width ≡ false = not_told _ _ _ (first_none (width_fault text.chip port conn (right_side_of text conn.source)) _ right) in
    let below : k < count conn.pin.subscript port.width = subst (λ v. k < count conn.pin.subscript v) (sym wide) lt in
    bit_by inner conn.pin.name (first conn.pin.subscript + k) port input (width_in inner.chip.inputs conn.pin.name) (width_in inner.chip.outputs conn.pin.name) refl refl way
    (sym (found_ports inner.chip conn.pin.name) ∙ e) (not_past conn.pin.subscript port.width k past below)

-- bit k of a connection is one of the pin that it names
pub conn_fits : (chips : Chips) (names : List (List ℕ)) (chip : Entry) → IsFaultless chips names chip → (i j k : ℕ) (part : Part) (inner : Entry) (conn : Connection) (input : Bool) → slice_get (parts_of chips chip) i ≡ Some part → find_chip chips part.chip ≡ Some inner → slice_get part.connections j ≡ Some conn → is_input inner conn.pin.name ≡ input → k < count conn.pin.subscript (width_of inner conn.pin.name) →
    HasBit (pins_on input inner) conn.pin.name (first conn.pin.subscript + k)
conn_fits chips names chip faultless i j k part inner conn input there found_inner here way lt =
    let text = context chips chip i (ports_of inner.chip) part.connections j in
    let right : connection_fault text (ports_of inner.chip) conn ≡ None =
    sym (ap (λ o. fault_of_connection chips chip i o j) there ∙ ap (connection_fault_by chips chip i part j) found_inner ∙ ap (connection_fault_at (context chips chip i (ports_of inner.chip) part.connections j) (ports_of inner.chip)) here) ∙ faultless (AtConnection i j) in
    fits_by chips text inner conn k input (find_value conn.pin.name (ports_of inner.chip)) refl right way lt

joints_fit : (chips : Chips) (names : List (List ℕ)) (chip : Entry) → IsFaultless chips names chip → JointsFit chips chip
joints_fit chips names chip faultless i conn w k input j =
    let same : chip ≡ j.chip = cc (j.at) in
    conn_fits chips names chip faultless i j.j k j.part j.inner conn input (ap (λ c. slice_get (parts_of chips c) i) same ∙ j.there) j.found j.here j.way j.within

record FineInside (chips : Chips) (inner : Entry) : Type 0 where
  names : List (List ℕ)
  fine : IsFaultless chips names inner

inner_by : (chips : Chips) (names : List (List ℕ)) (chip : Entry) (i : ℕ) (inner : Entry) (o : Option Part) → slice_get (parts_of chips chip) i ≡ o → chip_of chips o ≡ Some inner → IsFaultless chips names chip → FineInside chips inner
inner_by chips names chip i inner None e f faultless = absurd cc
inner_by chips names chip i inner (Some part) e f faultless = record {
  names = inner.name ∷ names;
  fine = λ s. sym (ap (λ p. at_inner (λ y. fault_at chips (y.name ∷ names) y s) (inner_of chips p)) e ∙ ap (at_inner (λ y. fault_at chips (y.name ∷ names) y s)) f) ∙ faultless (Inside i s);
}

pub tree_fits : (chips : Chips) (names : List (List ℕ)) (top : Entry) → IsFaultless chips names top → TreeFits chips top
tree_fits chips names top faultless [] chip at = let same : top ≡ chip = cc in subst (JointsFit chips) same (joints_fit chips names top faultless)
tree_fits chips names top faultless (i ∷ path) chip at =
    let a = at_part chips top i path chip at in
    let f = inner_by chips names top i a.inner (slice_get (parts_of chips top) i) refl a.found faultless in
    tree_fits chips f.names a.inner f.fine path chip a.rest
