-- Rows of connections and parts, one more at a time.
use Rattle.std.proofs.Common.{◌≡◌, ℕ, zero, suc, ◌+◌, ◌<◌, List, [], ◌∷◌, ◌++◌, length, take, map, add-zero, Bool, true, false, cond, Option, Some, None, is_some, refl, sym, ap, ◌∙◌, arith}
use Rattle.std.specs.Prelude.{slice_get}
use Rattle.std.specs.Str.{bytes_eq}
use Rattle.hdl_tree.specs.declared.tree.Connection.{Connection}
use Rattle.hdl_tree.specs.declared.tree.Part.{Part}
use Rattle.hdl_tree.specs.declared.tree.Pin.{Pin}
use Rattle.hdl_tree.specs.declared.library.Entry.{Entry}
use Rattle.hdl_tree.specs.Chips.{Chips, find_entry}
use Rattle.name_table.specs.Names.{find_value, names_in, with_new}
use Rattle.hdl_check.specs.Tables.{bits_of}
use Rattle.hdl_check.specs.Faults.{Driver, pin_name, driver_by, drivers_by, drivers_of, drivers_of_part, bits_driven, bits_fed, fed_by, widths_of}
use Rattle.hdl_check.specs.Inner.Progress.{numbered_entries}
use Rattle.hdl_check.specs.declared.check.Port.{Port}

pub assoc : {A : Type 0} (xs ys zs : List A) → (xs ++ ys) ++ zs ≡ xs ++ (ys ++ zs)
assoc [] ys zs = refl
assoc (x ∷ xs) ys zs = ap (λ r. x ∷ r) (assoc xs ys zs)

pub nil_right : {A : Type 0} (xs : List A) → xs ++ [] ≡ xs
nil_right [] = refl
nil_right (x ∷ xs) = ap (λ r. x ∷ r) (nil_right xs)

take_next_suc : {A : Type 0} (xs : List A) (j : ℕ) (x : A) → slice_get xs j ≡ Some x → take (suc j) xs ≡ take j xs ++ x ∷ []
take_next_suc [] j x e = absurd cc
take_next_suc (y ∷ ys) zero x e = let same : y ≡ x = cc in ap (λ z. z ∷ []) same
take_next_suc (y ∷ ys) (suc j) x e = ap (λ r. y ∷ r) (take_next_suc ys j x e)

pub take_next : {A : Type 0} (xs : List A) (j : ℕ) (x : A) → slice_get xs j ≡ Some x → take (j + 1) xs ≡ take j xs ++ x ∷ []
take_next xs j x e = let on : j + 1 ≡ suc j = omega arith in ap (λ n. take n xs) on ∙ take_next_suc xs j x e

pub drivers_by-append : (ports : List (List ℕ × Port)) (xs ys : List Connection) → drivers_by ports (xs ++ ys) ≡ drivers_by ports xs ++ drivers_by ports ys
drivers_by-append ports [] ys = refl
drivers_by-append ports (x ∷ xs) ys = ap (λ r. driver_by (find_value x.pin.name ports) x ++ r) (drivers_by-append ports xs ys) ∙ sym (assoc (driver_by (find_value x.pin.name ports) x) (drivers_by ports xs) (drivers_by ports ys))

pub bits_driven-append : (xs ys : List Driver) → bits_driven (xs ++ ys) ≡ bits_driven xs ++ bits_driven ys
bits_driven-append [] ys = refl
bits_driven-append (x ∷ xs) ys = ap (λ r. bits_of x.net x.first x.count ++ r) (bits_driven-append xs ys) ∙ sym (assoc (bits_of x.net x.first x.count) (bits_driven xs) (bits_driven ys))

pub bits_fed-append : (ports : List (List ℕ × Port)) (xs ys : List Connection) → bits_fed ports (xs ++ ys) ≡ bits_fed ports xs ++ bits_fed ports ys
bits_fed-append ports [] ys = refl
bits_fed-append ports (x ∷ xs) ys = ap (λ r. fed_by (find_value x.pin.name ports) x ++ r) (bits_fed-append ports xs ys) ∙ sym (assoc (fed_by (find_value x.pin.name ports) x) (bits_fed ports xs) (bits_fed ports ys))

pub drivers_of-append : (chips : Chips) (xs ys : List Part) → drivers_of chips (xs ++ ys) ≡ drivers_of chips xs ++ drivers_of chips ys
drivers_of-append chips [] ys = refl
drivers_of-append chips (x ∷ xs) ys = ap (λ r. drivers_of_part chips x ++ r) (drivers_of-append chips xs ys) ∙ sym (assoc (drivers_of_part chips x) (drivers_of chips xs) (drivers_of chips ys))

pub widths_of-append : (xs ys : List Driver) → widths_of (xs ++ ys) ≡ widths_of xs ++ widths_of ys
widths_of-append [] ys = refl
widths_of-append (x ∷ xs) ys = ap (λ r. (x.net, x.count) ∷ r) (widths_of-append xs ys)

-- the bits that one connection more drives or feeds
pub put_next : (ports : List (List ℕ × Port)) (conns : List Connection) (j : ℕ) (conn : Connection) → slice_get conns j ≡ Some conn →
    bits_driven (drivers_by ports (take (j + 1) conns)) ≡ bits_driven (drivers_by ports (take j conns)) ++ bits_driven (driver_by (find_value conn.pin.name ports) conn)
put_next ports conns j conn e =
    ap (λ xs. bits_driven (drivers_by ports xs)) (take_next conns j conn e) ∙ ap bits_driven (drivers_by-append ports (take j conns) (conn ∷ []))
    ∙ ap (λ xs. bits_driven (drivers_by ports (take j conns) ++ xs)) (nil_right (driver_by (find_value conn.pin.name ports) conn))
    ∙ bits_driven-append (drivers_by ports (take j conns)) (driver_by (find_value conn.pin.name ports) conn)

pub fed_next : (ports : List (List ℕ × Port)) (conns : List Connection) (j : ℕ) (conn : Connection) → slice_get conns j ≡ Some conn →
    bits_fed ports (take (j + 1) conns) ≡ bits_fed ports (take j conns) ++ fed_by (find_value conn.pin.name ports) conn
fed_next ports conns j conn e =
    ap (bits_fed ports) (take_next conns j conn e) ∙ bits_fed-append ports (take j conns) (conn ∷ [])
    ∙ ap (λ xs. bits_fed ports (take j conns) ++ xs) (nil_right (fed_by (find_value conn.pin.name ports) conn))

-- the bits that one part more drives
pub part_next : (chips : Chips) (parts : List Part) (i : ℕ) (part : Part) → slice_get parts i ≡ Some part →
    bits_driven (drivers_of chips (take (i + 1) parts)) ≡ bits_driven (drivers_of chips (take i parts)) ++ bits_driven (drivers_of_part chips part)
part_next chips parts i part e =
    ap (λ xs. bits_driven (drivers_of chips xs)) (take_next parts i part e) ∙ ap bits_driven (drivers_of-append chips (take i parts) (part ∷ []))
    ∙ ap (λ xs. bits_driven (drivers_of chips (take i parts) ++ xs)) (nil_right (drivers_of_part chips part))
    ∙ bits_driven-append (drivers_of chips (take i parts)) (drivers_of_part chips part)

-- where a chip of a name stands
pub record StandsAt (es : List Entry) (name : List ℕ) (n k : ℕ) : Type 0 where
  pub place : ℕ
  pub k_is : k ≡ n + place
  pub within : place < length es
  pub same : find_entry es name ≡ slice_get es place

place_by : (b : Bool) (e : Entry) (es : List Entry) (name : List ℕ) (n k : ℕ) → cond b (Some n) (find_value name (numbered_entries (suc n) es)) ≡ Some k → (find_value name (numbered_entries (suc n) es) ≡ Some k → StandsAt es name (suc n) k) →
    (m : Option Entry) → m ≡ cond b (Some e) (find_entry es name) → (place : ℕ) × (k ≡ n + place) × (place < suc (length es)) × (m ≡ slice_get (e ∷ es) place)
place_by true e es name n k h go m q = (0, cc (add-zero n), omega arith, q)
place_by false e es name n k h go m q = let s = go h in let i : k ≡ suc n + s.place = s.k_is in (suc s.place, omega arith, omega (arith, s.within), q ∙ s.same)

pub place_of : (es : List Entry) (name : List ℕ) (n k : ℕ) → find_value name (numbered_entries n es) ≡ Some k → StandsAt es name n k
place_of [] name n k h = absurd cc
place_of (e ∷ es) name n k h =
    let p = place_by (bytes_eq name e.name) e es name n k h (place_of es name (suc n) k) (find_entry (e ∷ es) name) refl in
    record { place = p.0; k_is = p.1; within = p.2; same = p.3 }

none_by : (b : Bool) (e : Entry) (o : Option ℕ) (m : Option Entry) (n : ℕ) → cond b (Some n) o ≡ None → (o ≡ None → m ≡ None) → cond b (Some e) m ≡ None
none_by true e o m n h go = absurd cc
none_by false e o m n h go = go h

pub no_place : (es : List Entry) (name : List ℕ) (n : ℕ) → find_value name (numbered_entries n es) ≡ None → find_entry es name ≡ None
no_place [] name n h = refl
no_place (e ∷ es) name n h = none_by (bytes_eq name e.name) e (find_value name (numbered_entries (suc n) es)) (find_entry es name) n h (no_place es name (suc n))

names_in-append : {V : Type 0} (es fs : List (List ℕ × V)) → names_in (es ++ fs) ≡ names_in es ++ names_in fs
names_in-append [] fs = refl
names_in-append (e ∷ es) fs = ap (λ r. e.0 ∷ r) (names_in-append es fs)

map-append : {A B : Type 0} (f : A → B) (xs ys : List A) → map f (xs ++ ys) ≡ map f xs ++ map f ys
map-append f [] ys = refl
map-append f (x ∷ xs) ys = ap (λ r. f x ∷ r) (map-append f xs ys)

-- the names of pins, with one more
pub names_next : (front pins : List Pin) (i : ℕ) (pin : Pin) (name : List ℕ) (es new : List (List ℕ × Unit {0})) → slice_get pins i ≡ Some pin → name ≡ pin_name pin → names_in es ≡ map pin_name (front ++ take i pins) → is_some (find_value name es) ≡ false → new ≡ with_new es name tt →
    names_in new ≡ map pin_name (front ++ take (i + 1) pins)
names_next front pins i pin name es new e n h not_there is =
    ap names_in is ∙ ap (λ (b : Bool). names_in (cond b es (es ++ (name, tt) ∷ []))) not_there
    ∙ names_in-append es ((name, tt) ∷ []) ∙ ap (λ r. r ++ name ∷ []) h ∙ ap (λ x. map pin_name (front ++ take i pins) ++ x ∷ []) n
    ∙ sym (map-append pin_name (front ++ take i pins) (pin ∷ []))
    ∙ ap (map pin_name) (assoc front (take i pins) (pin ∷ []) ∙ ap (λ r. front ++ r) (sym (take_next pins i pin e)))
