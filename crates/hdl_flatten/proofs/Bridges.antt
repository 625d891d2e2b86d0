-- The wires of a chip in the code and the plan of its text say the same.
use Rattle.std.proofs.Common.{◌≡◌, ℕ, zero, suc, ◌+◌, ◌-◌, ◌≤◌, Bool, true, false, cond, ◌&&◌, ◌||◌, nat_eq, List, [], ◌∷◌, Option, Some, None, refl, sym, ap, ◌∙◌, arith}
use Rattle.std.specs.Str.{bytes_eq}
use Rattle.std.proofs.lemmas.Bool.Decides.{Decides-eqb}
use Rattle.hdl_tree.specs.declared.tree.Source.{Source}
use Rattle.hdl_tree.specs.declared.tree.Source.TheVariants as source
use Rattle.hdl_tree.specs.declared.tree.Connection.{Connection}
use Rattle.hdl_tree.specs.declared.tree.Part.{Part}
use Rattle.hdl_tree.specs.declared.library.Entry.{Entry}
use Rattle.hdl_tree.specs.Chips.{Chips, find_chip, first, count}
use Rattle.name_table.specs.Names.{find_value, first_of}
use Rattle.hdl_check.specs.Tables.{BitOf, bits_of, is_in}
use Rattle.hdl_check.specs.Faults.{ports_of}
use Rattle.hdl_check.specs.declared.check.Port.{Port}
use Rattle.hdl_check.proofs.MarkLemmas.{both, is_in-append}
use Rattle.hdl_plans.specs.Plans.{Origin, FromNet, Low, High, Place, origin_of}
use Rattle.hdl_plans.specs.Planned.{origin_by, origin_among, output_from, output_by, output_among, output_in, output_of}
use Rattle.hdl_flatten.specs.declared.wires.Origin.{Origin as Fed}
use Rattle.hdl_flatten.specs.declared.wires.Origin.TheVariants as fed
use Rattle.hdl_flatten.specs.Inner.Wired.{wires_of, found_bit, origin_at}
use Rattle.hdl_flatten.specs.Inner.Sizes.{joined_size}
use Rattle.hdl_flatten.specs.declared.size.Size.{Size}
use Rattle.hdl_flatten.specs.declared.plan.Plan.{Plan}
use Rattle.hdl_flatten.specs.Inner.Plans.{source_at, fed_bits, fed_by, all_fed, moved_by, driven_bits, driven_to, driven_by, all_driven, parts_driven, HavePlans}
use Rattle.hdl_flatten.proofs.Wiring.{found-append}

-- what an origin of the text is in the code
abbrev pub resolved : List (BitOf × Fed) → Origin → Fed
resolved wires (FromNet name bit) = origin_at wires name bit
resolved wires Low = fed.Low
resolved wires High = fed.High

abbrev pub resolved_if : List (BitOf × Fed) → Option Origin → Option Fed
resolved_if wires None = None
resolved_if wires (Some o) = Some (resolved wires o)

source_is : (wires : List (BitOf × Fed)) (s : Source) (k : ℕ) → source_at wires s k ≡ resolved wires (origin_of s k)
source_is wires (source.Net w) k = refl
source_is wires (source.Constant true) k = refl
source_is wires (source.Constant false) k = refl

if_first : (wires : List (BitOf × Fed)) (a b : Option Origin) → resolved_if wires (first_of a b) ≡ first_of (resolved_if wires a) (resolved_if wires b)
if_first wires None b = refl
if_first wires (Some o) b = refl

-- what the first n bits of a pin are fed, in the text and in the code
abbrev text_bits : Source → ℕ → ℕ → Bool → Option Origin
text_bits s bit at b = cond b (Some (origin_of s (bit - at))) None

module _ (wires : List (BitOf × Fed)) (s : Source) (pin name : List ℕ) (bit at : ℕ) where
  last_by : (n : ℕ) (b c : Bool) → (bytes_eq name pin && nat_eq bit (at + n)) ≡ c → resolved_if wires (text_bits s bit at (b || (c || false))) ≡ first_of (resolved_if wires (text_bits s bit at b)) (cond c (Some (source_at wires s n)) None)
  last_by n true c e = refl
  last_by n false false e = refl
  last_by n false true e =
      let p = both (bytes_eq name pin) (nat_eq bit (at + n)) e in
      let here : bit ≡ at + n = (Decides-eqb bit (at + n)).0 p.1 in
      let k : bit - at ≡ n = omega arith in
      ap (λ (m : ℕ). Some (resolved wires (origin_of s m))) k ∙ ap (λ (o : Fed). Some o) (sym (source_is wires s n))

  bits_fed_are : (n : ℕ) → resolved_if wires (text_bits s bit at (is_in name bit (bits_of pin at n))) ≡ found_bit name bit (fed_bits wires s pin at n)
  bits_fed_are zero = refl
  bits_fed_are (suc n) =
      ap (λ (b : Bool). resolved_if wires (text_bits s bit at b)) (is_in-append name bit (bits_of pin at n) (record { name = pin; bit = at + n } ∷ []))
      ∙ last_by n (is_in name bit (bits_of pin at n)) (bytes_eq name pin && nat_eq bit (at + n)) refl
      ∙ ap (λ (o : Option Fed). first_of o (cond (bytes_eq name pin && nat_eq bit (at + n)) (Some (source_at wires s n)) None)) (bits_fed_are n)
      ∙ sym (found-append name bit (fed_bits wires s pin at n) ((record { name = pin; bit = at + n }, source_at wires s n) ∷ []))

-- a connection, and the connections of a part
port_fed : (wires : List (BitOf × Fed)) (name : List ℕ) (bit : ℕ) (conn : Connection) (n : ℕ) (b : Bool) → resolved_if wires (cond b (text_bits conn.source bit (first conn.pin.subscript) (is_in name bit (bits_of conn.pin.name (first conn.pin.subscript) n))) None) ≡ found_bit name bit (cond b (fed_bits wires conn.source conn.pin.name (first conn.pin.subscript) n) [])
port_fed wires name bit conn n true = bits_fed_are wires conn.source conn.pin.name name bit (first conn.pin.subscript) n
port_fed wires name bit conn n false = refl

conn_fed : (wires : List (BitOf × Fed)) (name : List ℕ) (bit : ℕ) (conn : Connection) (o : Option Port) → resolved_if wires (origin_by name bit conn o) ≡ found_bit name bit (fed_by wires o conn)
conn_fed wires name bit conn None = refl
conn_fed wires name bit conn (Some port) = port_fed wires name bit conn (count conn.pin.subscript port.width) port.input

pub all_fed_is : (wires : List (BitOf × Fed)) (name : List ℕ) (bit : ℕ) (ports : List (List ℕ × Port)) (conns : List Connection) → resolved_if wires (origin_among name bit ports conns) ≡ found_bit name bit (all_fed wires ports conns)
all_fed_is wires name bit ports [] = refl
all_fed_is wires name bit ports (conn ∷ conns) =
    if_first wires (origin_by name bit conn (find_value conn.pin.name ports)) (origin_among name bit ports conns)
    ∙ ap (λ (o : Option Fed). first_of o (resolved_if wires (origin_among name bit ports conns))) (conn_fed wires name bit conn (find_value conn.pin.name ports))
    ∙ ap (first_of (found_bit name bit (fed_by wires (find_value conn.pin.name ports) conn))) (all_fed_is wires name bit ports conns)
    ∙ sym (found-append name bit (fed_by wires (find_value conn.pin.name ports) conn) (all_fed wires ports conns))

-- ---- what drives a bit

abbrev pub with_place : (Place → Fed) → Option Place → Option Fed
with_place f None = None
with_place f (Some p) = Some (f p)

place_first : (f : Place → Fed) (a b : Option Place) → with_place f (first_of a b) ≡ first_of (with_place f a) (with_place f b)
place_first f None b = refl
place_first f (Some p) b = refl

-- of part i, whose chip has these wires, and whose nodes begin at the offset
module _ (inner : List (BitOf × Fed)) (offset i : ℕ) (f : Place → Fed) (h : (pin : List ℕ) (bit : ℕ) → f (record { part = i; pin = pin; bit = bit }) ≡ moved_by offset (origin_at inner pin bit)) where
  module _ (pin net name : List ℕ) (bit from to : ℕ) where
    abbrev text_place : Bool → Option Place
    text_place b = cond b (Some (record { part = i; pin = pin; bit = from + (bit - to) })) None

    driven_last : (n : ℕ) (b c : Bool) → (bytes_eq name net && nat_eq bit (to + n)) ≡ c → with_place f (text_place (b || (c || false))) ≡ first_of (with_place f (text_place b)) (cond c (Some (moved_by offset (origin_at inner pin (from + n)))) None)
    driven_last n true c e = refl
    driven_last n false false e = refl
    driven_last n false true e =
        let p = both (bytes_eq name net) (nat_eq bit (to + n)) e in
        let here : bit ≡ to + n = (Decides-eqb bit (to + n)).0 p.1 in
        let k : bit - to ≡ n = omega arith in
        ap (λ (o : Fed). Some o) (h pin (from + (bit - to)) ∙ ap (λ (m : ℕ). moved_by offset (origin_at inner pin (from + m))) k)

    bits_driven_are : (n : ℕ) → with_place f (text_place (is_in name bit (bits_of net to n))) ≡ found_bit name bit (driven_bits inner offset pin from net to n)
    bits_driven_are zero = refl
    bits_driven_are (suc n) =
        ap (λ (b : Bool). with_place f (text_place b)) (is_in-append name bit (bits_of net to n) (record { name = net; bit = to + n } ∷ []))
        ∙ driven_last n (is_in name bit (bits_of net to n)) (bytes_eq name net && nat_eq bit (to + n)) refl
        ∙ ap (λ (o : Option Fed). first_of o (cond (bytes_eq name net && nat_eq bit (to + n)) (Some (moved_by offset (origin_at inner pin (from + n)))) None)) (bits_driven_are n)
        ∙ sym (found-append name bit (driven_bits inner offset pin from net to n) ((record { name = net; bit = to + n }, moved_by offset (origin_at inner pin (from + n))) ∷ []))

  source_driven : (name : List ℕ) (bit : ℕ) (conn : Connection) (n : ℕ) (s : Source) → with_place f (output_from i name bit conn n s) ≡ found_bit name bit (driven_to inner offset conn n s)
  source_driven name bit conn n (source.Net w) = bits_driven_are conn.pin.name w.name name bit (first conn.pin.subscript) (first w.subscript) n
  source_driven name bit conn n (source.Constant b) = refl

  port_driven : (name : List ℕ) (bit : ℕ) (conn : Connection) (n : ℕ) (b : Bool) → with_place f (cond b None (output_from i name bit conn n conn.source)) ≡ found_bit name bit (cond b [] (driven_to inner offset conn n conn.source))
  port_driven name bit conn n true = refl
  port_driven name bit conn n false = source_driven name bit conn n conn.source

  conn_driven : (name : List ℕ) (bit : ℕ) (conn : Connection) (o : Option Port) → with_place f (output_by i name bit conn o) ≡ found_bit name bit (driven_by inner offset o conn)
  conn_driven name bit conn None = refl
  conn_driven name bit conn (Some port) = port_driven name bit conn (count conn.pin.subscript port.width) port.input

  all_driven_is : (name : List ℕ) (bit : ℕ) (ports : List (List ℕ × Port)) (conns : List Connection) → with_place f (output_among i name bit ports conns) ≡ found_bit name bit (all_driven inner offset ports conns)
  all_driven_is name bit ports [] = refl
  all_driven_is name bit ports (conn ∷ conns) =
      place_first f (output_by i name bit conn (find_value conn.pin.name ports)) (output_among i name bit ports conns)
      ∙ ap (λ (o : Option Fed). first_of o (with_place f (output_among i name bit ports conns))) (conn_driven name bit conn (find_value conn.pin.name ports))
      ∙ ap (first_of (found_bit name bit (driven_by inner offset (find_value conn.pin.name ports) conn))) (all_driven_is name bit ports conns)
      ∙ sym (found-append name bit (driven_by inner offset (find_value conn.pin.name ports) conn) (all_driven inner offset ports conns))

-- the node of a place, counted from the chip's first, where the first of these plans is that of part i
abbrev pub gate_at : Size → ℕ → List Plan → Place → Fed
gate_at size i [] p = fed.Low
gate_at size i (x ∷ xs) p = cond (nat_eq p.part i) (moved_by size.nodes (origin_at (wires_of x.wires) p.pin p.bit)) (gate_at (joined_size size x.size) (suc i) xs p)

-- a place that a part drives is one of it or of a later one
AtLeast : ℕ → Option Place → Type 0
AtLeast i None = Unit {0}
AtLeast i (Some p) = i ≤ p.part

least_first : (i : ℕ) (a b : Option Place) → AtLeast i a → AtLeast i b → AtLeast i (first_of a b)
unfolding AtLeast
least_first i None b f g = g
least_first i (Some p) b f g = f

least_from : (i : ℕ) (pin : List ℕ) (bit : ℕ) (b : Bool) → AtLeast i (cond b (Some (record { part = i; pin = pin; bit = bit })) None)
unfolding AtLeast
least_from i pin bit true = omega arith
least_from i pin bit false = tt

least_source : (i : ℕ) (name : List ℕ) (bit : ℕ) (conn : Connection) (n : ℕ) (s : Source) → AtLeast i (output_from i name bit conn n s)
unfolding AtLeast
least_source i name bit conn n (source.Net w) = least_from i conn.pin.name (first conn.pin.subscript + (bit - first w.subscript)) (is_in name bit (bits_of w.name (first w.subscript) n))
least_source i name bit conn n (source.Constant b) = tt

least_port : (i : ℕ) (name : List ℕ) (bit : ℕ) (conn : Connection) (n : ℕ) (b : Bool) → AtLeast i (cond b None (output_from i name bit conn n conn.source))
unfolding AtLeast
least_port i name bit conn n true = tt
least_port i name bit conn n false = least_source i name bit conn n conn.source

least_by : (i : ℕ) (name : List ℕ) (bit : ℕ) (conn : Connection) (o : Option Port) → AtLeast i (output_by i name bit conn o)
unfolding AtLeast
least_by i name bit conn None = tt
least_by i name bit conn (Some port) = least_port i name bit conn (count conn.pin.subscript port.width) port.input

least_among : (i : ℕ) (name : List ℕ) (bit : ℕ) (ports : List (List ℕ × Port)) (conns : List Connection) → AtLeast i (output_among i name bit ports conns)
unfolding AtLeast
least_among i name bit ports [] = tt
least_among i name bit ports (conn ∷ conns) = least_first i (output_by i name bit conn (find_value conn.pin.name ports)) (output_among i name bit ports conns) (least_by i name bit conn (find_value conn.pin.name ports)) (least_among i name bit ports conns)

least_in : (i : ℕ) (name : List ℕ) (bit : ℕ) (conns : List Connection) (o : Option Entry) → AtLeast i (output_in i name bit conns o)
unfolding AtLeast
least_in i name bit conns None = tt
least_in i name bit conns (Some inner) = least_among i name bit (ports_of inner.chip) conns

least_less : (i : ℕ) (o : Option Place) → AtLeast (suc i) o → AtLeast i o
unfolding AtLeast
least_less i None h = tt
least_less i (Some p) h = omega arith

least_of : (chips : Chips) (i : ℕ) (name : List ℕ) (bit : ℕ) (ps : List Part) → AtLeast i (output_of chips i name bit ps)
unfolding AtLeast
least_of chips i name bit [] = tt
least_of chips i name bit (p ∷ ps) = least_first i (output_in i name bit p.connections (find_chip chips p.chip)) (output_of chips (suc i) name bit ps) (least_in i name bit p.connections (find_chip chips p.chip)) (least_less i (output_of chips (suc i) name bit ps) (least_of chips (suc i) name bit ps))

same_number : (i : ℕ) → nat_eq i i ≡ true
same_number i = (Decides-eqb i i).1 refl

not_same : (a i : ℕ) (b : Bool) → nat_eq a i ≡ b → suc i ≤ a → b ≡ false
not_same a i true e lt = let same : a ≡ i = (Decides-eqb a i).0 e in absurd (omega arith)
not_same a i false e lt = refl

later : (size : Size) (i : ℕ) (x : Plan) (xs : List Plan) (o : Option Place) → AtLeast (suc i) o → with_place (gate_at size i (x ∷ xs)) o ≡ with_place (gate_at (joined_size size x.size) (suc i) xs) o
unfolding AtLeast
later size i x xs None h = refl
later size i x xs (Some p) h = ap (λ (b : Bool). Some (cond b (moved_by size.nodes (origin_at (wires_of x.wires) p.pin p.bit)) (gate_at (joined_size size x.size) (suc i) xs p))) (not_same p.part i (nat_eq p.part i) refl h)

-- what drives a bit in the text is what the code has for it
pub parts_driven_are : (chips : Chips) (plans : List Plan) (n : ℕ) (name : List ℕ) (bit : ℕ) (size : Size) (i : ℕ) (ps : List Part) (xs : List Plan) (rs : List ℕ) → HavePlans chips plans n ps xs rs → with_place (gate_at size i xs) (output_of chips i name bit ps) ≡ found_bit name bit (parts_driven size ps xs)
parts_driven_are chips plans n name bit size i [] [] [] h = refl
parts_driven_are chips plans n name bit size i [] [] (r ∷ rs) h = absurd h
parts_driven_are chips plans n name bit size i [] (x ∷ xs) rs h = absurd h
parts_driven_are chips plans n name bit size i (p ∷ ps) [] rs h = absurd h
parts_driven_are chips plans n name bit size i (p ∷ ps) (x ∷ xs) [] h = absurd h
parts_driven_are chips plans n name bit size i (p ∷ ps) (x ∷ xs) (r ∷ rs) h =
    let wires = wires_of x.wires in
    let ports = ports_of x.entry.now.chip in
    let here = all_driven_is wires size.nodes i (gate_at size i (x ∷ xs)) (λ pin b. ap (λ (t : Bool). cond t (moved_by size.nodes (origin_at wires pin b)) (gate_at (joined_size size x.size) (suc i) xs (record { part = i; pin = pin; bit = b }))) (same_number i)) name bit ports p.connections in
    place_first (gate_at size i (x ∷ xs)) (output_in i name bit p.connections (find_chip chips p.chip)) (output_of chips (suc i) name bit ps)
    ∙ ap (λ (o : Option Fed). first_of o (with_place (gate_at size i (x ∷ xs)) (output_of chips (suc i) name bit ps))) (ap (λ (e : Option Entry). with_place (gate_at size i (x ∷ xs)) (output_in i name bit p.connections e)) h.0.found ∙ here)
    ∙ ap (first_of (found_bit name bit (all_driven wires size.nodes ports p.connections))) (later size i x xs (output_of chips (suc i) name bit ps) (least_of chips (suc i) name bit ps) ∙ parts_driven_are chips plans n name bit (joined_size size x.size) (suc i) ps xs rs h.1)
    ∙ sym (found-append name bit (all_driven wires size.nodes ports p.connections) (parts_driven (joined_size size x.size) ps xs))
