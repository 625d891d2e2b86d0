-- The plan of a chip without faults.
use Rattle.std.proofs.Common.{◌≡◌, ℕ, zero, suc, ◌+◌, ◌-◌, ◌<◌, Bool, true, false, cond, ◌&&◌, ◌||◌, List, [], ◌∷◌, ◌++◌, take, Option, Some, None, refl, sym, ap, ◌∙◌, arith, nat_eq, add-zero}
use Rattle.std.specs.Prelude.{slice_get}
use Rattle.std.specs.Str.{bytes_eq}
use Rattle.std.specs.Cmp.Lexicographic.{bytes_decides}
use Rattle.std.proofs.lemmas.Bool.Decides.{Decides-eqb}
use Rattle.hdl_tree.specs.declared.tree.Source.{Source}
use Rattle.hdl_tree.specs.declared.tree.Source.TheVariants as source
use Rattle.hdl_tree.specs.declared.tree.Connection.{Connection}
use Rattle.hdl_tree.specs.declared.tree.Part.{Part}
use Rattle.hdl_tree.specs.declared.library.Entry.{Entry}
use Rattle.hdl_tree.specs.Chips.{Chips, find_chip, first, count}
use Rattle.name_table.specs.Names.{find_value, first_of}
use Rattle.hdl_check.specs.Tables.{BitOf, bits_of, is_in, some_in}
use Rattle.hdl_check.specs.Faults.{Driver, driver_by, driver_into, drivers_by, drivers_of, drivers_of_part, drivers_of_inner, bits_driven, fed_by, bits_fed, ports_of}
use Rattle.hdl_check.specs.declared.check.Port.{Port}
use Rattle.hdl_check.proofs.MarkLemmas.{is_in-append}
use Rattle.hdl_check.proofs.Rows.{nil_right, bits_driven-append}
use Rattle.hdl_plans.specs.Plans.{Place, Origin, origin_of}
use Rattle.hdl_plans.specs.Planned.{output_from, output_by, output_among, output_in, output_of, origin_by, origin_among}

or_left : (a b : Bool) → (a || b) ≡ false → a ≡ false
or_left true b h = absurd cc
or_left false b h = refl

or_right : (a b : Bool) → (a || b) ≡ false → b ≡ false
or_right true b h = absurd cc
or_right false b h = h

or_true : (a : Bool) → (a || true) ≡ true
or_true true = refl
or_true false = refl

or_one : (a b : Bool) → a ≡ true → (a || b) ≡ true
or_one true b h = refl
or_one false b h = absurd cc

same_bit : (name : List ℕ) (bit : ℕ) → ((bytes_eq name name && nat_eq bit bit) || false) ≡ true
same_bit name bit =
    ap (λ b. (b && nat_eq bit bit) || false) ((bytes_decides name name).1 refl) ∙ ap (λ b. b || false) ((Decides-eqb bit bit).1 refl)

-- bit k of n bits is one of them
one_of_bits : (name : List ℕ) (from k m : ℕ) → is_in name (from + k) (bits_of name from (suc (k + m))) ≡ true
one_of_bits name from k zero = rw add-zero (is_in-append name (from + k) (bits_of name from k) _ ∙ ap (λ b. is_in name (from + k) (bits_of name from k) || b) (same_bit name (from + k)) ∙ or_true (is_in name (from + k) (bits_of name from k)))
one_of_bits name from k (suc m) =
    let e : k + suc m ≡ suc (k + m) = omega arith in
    ap (λ n. is_in name (from + k) (bits_of name from (suc n))) e ∙ is_in-append name (from + k) (bits_of name from (suc (k + m))) _ ∙ or_one (is_in name (from + k) (bits_of name from (suc (k + m)))) _ (one_of_bits name from k m)

pub bit_there : (name : List ℕ) (from k n : ℕ) → k < n → is_in name (from + k) (bits_of name from n) ≡ true
bit_there name from k n lt = let e : n ≡ suc (k + (n - suc k)) = omega arith in ap (λ m. is_in name (from + k) (bits_of name from m)) e ∙ one_of_bits name from k (n - suc k)

some_in-append : (xs ys those : List BitOf) → some_in (xs ++ ys) those ≡ false → (some_in xs those ≡ false) × (some_in ys those ≡ false)
some_in-append [] ys those h = (refl, h)
some_in-append (x ∷ xs) ys those h =
    let r = some_in-append xs ys those (or_right (is_in x.name x.bit those) (some_in (xs ++ ys) those) h) in
    let l = or_left (is_in x.name x.bit those) (some_in (xs ++ ys) those) h in
    (ap (λ b. b || some_in xs those) l ∙ r.0, r.1)

-- where none of n bits is among others, bit k isn't
none_of_bits : (name : List ℕ) (from k m : ℕ) (those : List BitOf) → some_in (bits_of name from (suc (k + m))) those ≡ false → is_in name (from + k) those ≡ false
none_of_bits name from k zero those h =
    let e : k + zero ≡ k = add-zero k in
    let last = (some_in-append (bits_of name from k) _ those (ap (λ n. some_in (bits_of name from (suc n)) those) (sym e) ∙ h)).1 in
    or_left (is_in name (from + k) those) false last
none_of_bits name from k (suc m) those h =
    let e : k + suc m ≡ suc (k + m) = omega arith in
    none_of_bits name from k m those (some_in-append (bits_of name from (suc (k + m))) _ those (ap (λ n. some_in (bits_of name from (suc n)) those) (sym e) ∙ h)).0

pub bit_not_there : (name : List ℕ) (from k n : ℕ) (those : List BitOf) → k < n → some_in (bits_of name from n) those ≡ false → is_in name (from + k) those ≡ false
bit_not_there name from k n those lt h = let e : n ≡ suc (k + (n - suc k)) = omega arith in none_of_bits name from k (n - suc k) those (ap (λ m. some_in (bits_of name from m) those) (sym e) ∙ h)

-- ---- drivers

-- a connection that doesn't drive the bit
no_driver_from : (i : ℕ) (name : List ℕ) (bit : ℕ) (conn : Connection) (n : ℕ) (s : Source) → is_in name bit (bits_driven (driver_into n s)) ≡ false → output_from i name bit conn n s ≡ None
no_driver_from i name bit conn n (source.Constant b) h = refl
no_driver_from i name bit conn n (source.Net w) h =
    ap (λ (b : Bool). cond b (Some (record { part = i; pin = conn.pin.name; bit = first conn.pin.subscript + (bit - first w.subscript) })) None)
    (sym (ap (is_in name bit) (nil_right (bits_of w.name (first w.subscript) n))) ∙ h)

no_driver_way : (i : ℕ) (name : List ℕ) (bit : ℕ) (conn : Connection) (port : Port) (b : Bool) → is_in name bit (bits_driven (cond b [] (driver_into (count conn.pin.subscript port.width) conn.source))) ≡ false → cond b None (output_from i name bit conn (count conn.pin.subscript port.width) conn.source) ≡ None
no_driver_way i name bit conn port true h = refl
no_driver_way i name bit conn port false h = no_driver_from i name bit conn (count conn.pin.subscript port.width) conn.source h

no_driver_by : (i : ℕ) (name : List ℕ) (bit : ℕ) (conn : Connection) (o : Option Port) → is_in name bit (bits_driven (driver_by o conn)) ≡ false → output_by i name bit conn o ≡ None
no_driver_by i name bit conn None h = refl
no_driver_by i name bit conn (Some port) h = no_driver_way i name bit conn port port.input h

split_puts : (name : List ℕ) (bit : ℕ) (xs ys : List Driver) → is_in name bit (bits_driven (xs ++ ys)) ≡ false → (is_in name bit (bits_driven xs) ≡ false) × (is_in name bit (bits_driven ys) ≡ false)
split_puts name bit xs ys h =
    let both : (is_in name bit (bits_driven xs) || is_in name bit (bits_driven ys)) ≡ false = sym (ap (is_in name bit) (bits_driven-append xs ys) ∙ is_in-append name bit (bits_driven xs) (bits_driven ys)) ∙ h in
    (or_left (is_in name bit (bits_driven xs)) (is_in name bit (bits_driven ys)) both, or_right (is_in name bit (bits_driven xs)) (is_in name bit (bits_driven ys)) both)

no_driver_among : (i : ℕ) (name : List ℕ) (bit : ℕ) (ports : List (List ℕ × Port)) (conns : List Connection) → is_in name bit (bits_driven (drivers_by ports conns)) ≡ false → output_among i name bit ports conns ≡ None
no_driver_among i name bit ports [] h = refl
no_driver_among i name bit ports (c ∷ cs) h =
    let s = split_puts name bit (driver_by (find_value c.pin.name ports) c) (drivers_by ports cs) h in
    ap (λ o. first_of o (output_among i name bit ports cs)) (no_driver_by i name bit c (find_value c.pin.name ports) s.0) ∙ no_driver_among i name bit ports cs s.1

no_driver_part : (chips : Chips) (i : ℕ) (name : List ℕ) (bit : ℕ) (conns : List Connection) (o : Option Entry) → is_in name bit (bits_driven (drivers_of_inner o conns)) ≡ false → output_in i name bit conns o ≡ None
no_driver_part chips i name bit conns None h = refl
no_driver_part chips i name bit conns (Some inner) h = no_driver_among i name bit (ports_of inner.chip) conns h

pub no_driver : (chips : Chips) (i : ℕ) (name : List ℕ) (bit : ℕ) (parts : List Part) → is_in name bit (bits_driven (drivers_of chips parts)) ≡ false → output_of chips i name bit parts ≡ None
no_driver chips i name bit [] h = refl
no_driver chips i name bit (p ∷ ps) h =
    let s = split_puts name bit (drivers_of_part chips p) (drivers_of chips ps) h in
    ap (λ o. first_of o (output_of chips (suc i) name bit ps)) (no_driver_part chips i name bit p.connections (find_chip chips p.chip) s.0) ∙ no_driver chips (suc i) name bit ps s.1

-- the first connection that drives the bit
driver_here : (i : ℕ) (name : List ℕ) (bit : ℕ) (ports : List (List ℕ × Port)) (conns : List Connection) (j : ℕ) (conn : Connection) (place : Place) → slice_get conns j ≡ Some conn → is_in name bit (bits_driven (drivers_by ports (take j conns))) ≡ false → output_by i name bit conn (find_value conn.pin.name ports) ≡ Some place → output_among i name bit ports conns ≡ Some place
driver_here i name bit ports [] j conn place e before h = absurd cc
driver_here i name bit ports (c ∷ cs) zero conn place e before h =
    let same : c ≡ conn = cc in
    ap (λ o. first_of o (output_among i name bit ports cs)) (ap (λ (x : Connection). output_by i name bit x (find_value x.pin.name ports)) same ∙ h)
driver_here i name bit ports (c ∷ cs) (suc j) conn place e before h =
    let s = split_puts name bit (driver_by (find_value c.pin.name ports) c) (drivers_by ports (take j cs)) before in
    ap (λ o. first_of o (output_among i name bit ports cs)) (no_driver_by i name bit c (find_value c.pin.name ports) s.0) ∙ driver_here i name bit ports cs j conn place e s.1 h

pub driver_at : (chips : Chips) (n : ℕ) (name : List ℕ) (bit : ℕ) (parts : List Part) (i : ℕ) (part : Part) (inner : Entry) (j : ℕ) (conn : Connection) (place : Place) → slice_get parts i ≡ Some part → find_chip chips part.chip ≡ Some inner → slice_get part.connections j ≡ Some conn →
    is_in name bit (bits_driven (drivers_of chips (take i parts))) ≡ false → is_in name bit (bits_driven (drivers_by (ports_of inner.chip) (take j part.connections))) ≡ false → output_by (n + i) name bit conn (find_value conn.pin.name (ports_of inner.chip)) ≡ Some place → output_of chips n name bit parts ≡ Some place
driver_at chips n name bit [] i part inner j conn place e f g before within h = absurd cc
driver_at chips n name bit (p ∷ ps) zero part inner j conn place e f g before within h =
    let same : p ≡ part = cc in
    let number : n + 0 ≡ n = add-zero n in
    ap (λ o. first_of o (output_of chips (suc n) name bit ps))
    (ap (λ (x : Part). output_in n name bit x.connections (find_chip chips x.chip)) same ∙ ap (output_in n name bit part.connections) f
    ∙ driver_here n name bit (ports_of inner.chip) part.connections j conn place g within (ap (λ x. output_by x name bit conn (find_value conn.pin.name (ports_of inner.chip))) (sym number) ∙ h))
driver_at chips n name bit (p ∷ ps) (suc i) part inner j conn place e f g before within h =
    let s = split_puts name bit (drivers_of_part chips p) (drivers_of chips (take i ps)) before in
    let number : suc n + i ≡ n + suc i = omega arith in
    ap (λ o. first_of o (output_of chips (suc n) name bit ps)) (no_driver_part chips n name bit p.connections (find_chip chips p.chip) s.0)
    ∙ driver_at chips (suc n) name bit ps i part inner j conn place e f g s.1 within (ap (λ x. output_by x name bit conn (find_value conn.pin.name (ports_of inner.chip))) number ∙ h)

-- ---- origins

no_origin_way : (name : List ℕ) (bit : ℕ) (conn : Connection) (port : Port) (b : Bool) → is_in name bit (cond b (bits_of conn.pin.name (first conn.pin.subscript) (count conn.pin.subscript port.width)) []) ≡ false →
    cond b (cond (is_in name bit (bits_of conn.pin.name (first conn.pin.subscript) (count conn.pin.subscript port.width))) (Some (origin_of conn.source (bit - first conn.pin.subscript))) None) None ≡ None
no_origin_way name bit conn port true h = ap (λ (x : Bool). cond x (Some (origin_of conn.source (bit - first conn.pin.subscript))) None) h
no_origin_way name bit conn port false h = refl

no_origin_by : (name : List ℕ) (bit : ℕ) (conn : Connection) (o : Option Port) → is_in name bit (fed_by o conn) ≡ false → origin_by name bit conn o ≡ None
no_origin_by name bit conn None h = refl
no_origin_by name bit conn (Some port) h = no_origin_way name bit conn port port.input h

split_bits : (name : List ℕ) (bit : ℕ) (xs ys : List BitOf) → is_in name bit (xs ++ ys) ≡ false → (is_in name bit xs ≡ false) × (is_in name bit ys ≡ false)
split_bits name bit xs ys h =
    let both : (is_in name bit xs || is_in name bit ys) ≡ false = sym (is_in-append name bit xs ys) ∙ h in
    (or_left (is_in name bit xs) (is_in name bit ys) both, or_right (is_in name bit xs) (is_in name bit ys) both)

-- the first connection that feeds the bit
pub origin_here : (name : List ℕ) (bit : ℕ) (ports : List (List ℕ × Port)) (conns : List Connection) (j : ℕ) (conn : Connection) (origin : Origin) → slice_get conns j ≡ Some conn → is_in name bit (bits_fed ports (take j conns)) ≡ false → origin_by name bit conn (find_value conn.pin.name ports) ≡ Some origin → origin_among name bit ports conns ≡ Some origin
origin_here name bit ports [] j conn origin e before h = absurd cc
origin_here name bit ports (c ∷ cs) zero conn origin e before h =
    let same : c ≡ conn = cc in
    ap (λ o. first_of o (origin_among name bit ports cs)) (ap (λ (x : Connection). origin_by name bit x (find_value x.pin.name ports)) same ∙ h)
origin_here name bit ports (c ∷ cs) (suc j) conn origin e before h =
    let s = split_bits name bit (fed_by (find_value c.pin.name ports) c) (bits_fed ports (take j cs)) before in
    ap (λ o. first_of o (origin_among name bit ports cs)) (no_origin_by name bit c (find_value c.pin.name ports) s.0) ∙ origin_here name bit ports cs j conn origin e s.1 h
