-- The first of some things that are wrong.
use Rattle.std.proofs.Common.{◌≡◌, ℕ, zero, suc, ◌+◌, ◌-◌, ◌<◌, ◌≤◌, ◌⊎◌, inl, inr, Bool, true, false, not, cond, List, [], ◌∷◌, ◌++◌, length, take, map, Option, Some, None, Result, Ok, Err, refl, sym, ap, ◌∙◌, arith, zero-add}
use Rattle.std.specs.Prelude.{slice_get}
use Rattle.std.proofs.Math.Seq.{take-append-add}
use Rattle.std.proofs.lemmas.List.{take-append-le}
use Rattle.std.proofs.lemmas.Option.{slice_get_past}
use Rattle.hdl_tree.specs.declared.tree.Pin.{Pin}
use Rattle.hdl_tree.specs.declared.tree.Connection.{Connection}
use Rattle.hdl_tree.specs.declared.library.Entry.{Entry}
use Rattle.hdl_tree.specs.Chips.{Chips}
use Rattle.hdl_tree.specs.Writable.{is_among}
use Rattle.hdl_check.specs.declared.fault.NamedFault.{NamedFault}
use Rattle.hdl_check.specs.Faults.{fault_in}
use Rattle.hdl_check.specs.Inner.Checked.{Checks}
use Rattle.hdl_check.specs.Faults.{pin_name, pin_fault, twice_fault, context, connection_fault_at, connection_fault, connection_fault_in}
use Rattle.hdl_check.specs.Inner.Seen.{SeesScope}
use Rattle.hdl_check.specs.Inner.Progress.{IsFirstOf, FindsFirst, pin_fault_in, SeesChip}
use Rattle.hdl_check.specs.Whole.{Tells}
use Rattle.hdl_check.specs.declared.check.Port.{Port}
use Rattle.hdl_check.specs.declared.check.Scope.{Scope}
use Rattle.hdl_check.specs.declared.fault.FaultKind.TheVariants as kinds
use Rattle.hdl_check.specs.declared.fault.ElabFault.{ElabFault}
use Rattle.hdl_check.specs.declared.fault.ElabFault.TheVariants as errors

pub tells_first : (fault : ℕ → Option NamedFault) (k : ℕ) (wanted : Option NamedFault) (e : ElabFault) → fault k ≡ wanted → ((j : ℕ) → j < k → fault j ≡ None) → Checks wanted (Err e) → Tells (IsFirstOf fault) e
tells_first fault k wanted errors.Memory at before h = tt
tells_first fault k wanted (errors.Named f) at before h = record { place = k; there = at ∙ h; first = before }

pub told_first : (fault : ℕ → Option NamedFault) (k : ℕ) (t : NamedFault) (r : Result (Unit {0}) ElabFault) → fault k ≡ Some t → ((j : ℕ) → j < k → fault j ≡ None) → Checks (Some t) r → FindsFirst fault r
told_first fault k t (Ok u) at before h = absurd cc
told_first fault k t (Err e) at before h = tells_first fault k (Some t) e at before h

pub tells_more : (P Q : NamedFault → Type 0) (e : ElabFault) → ((f : NamedFault) → P f → Q f) → Tells P e → Tells Q e
tells_more P Q errors.Memory go h = tt
tells_more P Q (errors.Named f) go h = go _ h

below_or : (n k : ℕ) → (k < n) ⊎ (n ≤ k)
below_or n k = grind arith

-- what is right at each place of a list, and nothing stands past its end
all_by : {A : Type 0} (fault : ℕ → Option NamedFault) (xs : List A) → ((k : ℕ) → slice_get xs k ≡ None → fault k ≡ None) → ((k : ℕ) → k < length xs → fault k ≡ None) → (k : ℕ) → (k < length xs) ⊎ (length xs ≤ k) → fault k ≡ None
all_by fault xs past within k (inl lt) = within k lt
all_by fault xs past within k (inr le) = past k (slice_get_past xs k le)

pub all_clear : {A : Type 0} (fault : ℕ → Option NamedFault) (xs : List A) → ((k : ℕ) → slice_get xs k ≡ None → fault k ≡ None) → ((k : ℕ) → k < length xs → fault k ≡ None) → (k : ℕ) → fault k ≡ None
all_clear fault xs past within k = all_by fault xs past within k (below_or (length xs) k)

pub not_is : (x y : Bool) → x ≡ true → x ≡ not y → y ≡ false
not_is x false h k = refl
not_is x true h k = absurd cc

pub is_not : (x y : Bool) → x ≡ false → x ≡ not y → y ≡ true
is_not x true h k = refl
is_not x false h k = absurd cc

-- ---- pins

pub twice_is : (entry : Entry) (front pins : List Pin) (k : ℕ) (pin : Pin) (name : List ℕ) (names : List (List ℕ)) (b : Bool) → slice_get pins k ≡ Some pin → name ≡ pin_name pin → names ≡ map pin_name (front ++ take k pins) → is_among name names ≡ b →
    pin_fault_in entry front pins k ≡ cond b (Some (fault_in entry.name kinds.Driven name)) None
twice_is entry front pins k pin name names b e n m h =
    ap (twice_fault entry.name (map pin_name (front ++ take k pins))) e
    ∙ sym (ap (λ x. cond (is_among x (map pin_name (front ++ take k pins))) (Some (fault_in entry.name kinds.Driven x)) None) n)
    ∙ sym (ap (λ x. cond (is_among name x) (Some (fault_in entry.name kinds.Driven name)) None) m)
    ∙ ap (λ x. cond x (Some (fault_in entry.name kinds.Driven name)) None) h

pub no_pin : (entry : Entry) (front pins : List Pin) (k : ℕ) → slice_get pins k ≡ None → pin_fault_in entry front pins k ≡ None
no_pin entry front pins k e = ap (twice_fault entry.name (map pin_name (front ++ take k pins))) e

get_left : {A : Type 0} (xs ys : List A) (k : ℕ) → k < length xs → slice_get (xs ++ ys) k ≡ slice_get xs k
get_left [] ys k h = absurd (omega arith)
get_left (x ∷ xs) ys zero h = refl
get_left (x ∷ xs) ys (suc k) h = get_left xs ys k (omega arith)

get_right : {A : Type 0} (xs ys : List A) (k : ℕ) → slice_get (xs ++ ys) (length xs + k) ≡ slice_get ys k
get_right [] ys k = ap (slice_get ys) (zero-add k)
get_right (x ∷ xs) ys k = let e : suc (length xs) + k ≡ suc (length xs + k) = omega arith in ap (slice_get (x ∷ (xs ++ ys))) e ∙ get_right xs ys k

pin_left : (entry : Entry) (k : ℕ) → k < length entry.chip.inputs → pin_fault entry k ≡ pin_fault_in entry [] entry.chip.inputs k
pin_left entry k h =
    ap (twice_fault entry.name (map pin_name (take k (entry.chip.inputs ++ entry.chip.outputs)))) (get_left entry.chip.inputs entry.chip.outputs k h)
    ∙ ap (λ x. twice_fault entry.name (map pin_name x) (slice_get entry.chip.inputs k)) (take-append-le k entry.chip.inputs entry.chip.outputs (omega arith))

pin_right : (entry : Entry) (k : ℕ) → pin_fault entry (length entry.chip.inputs + k) ≡ pin_fault_in entry entry.chip.inputs entry.chip.outputs k
pin_right entry k =
    ap (twice_fault entry.name (map pin_name (take (length entry.chip.inputs + k) (entry.chip.inputs ++ entry.chip.outputs)))) (get_right entry.chip.inputs entry.chip.outputs k)
    ∙ ap (λ x. twice_fault entry.name (map pin_name x) (slice_get entry.chip.outputs k)) (take-append-add entry.chip.inputs entry.chip.outputs k)

some_not_none : {A : Type 0} (o p : Option A) (x : A) → o ≡ p → p ≡ Some x → o ≡ Some x
some_not_none o p x e f = e ∙ f

within_by : (entry : Entry) (k : ℕ) (f : NamedFault) → pin_fault_in entry [] entry.chip.inputs k ≡ Some f → (k < length entry.chip.inputs) ⊎ (length entry.chip.inputs ≤ k) → k < length entry.chip.inputs
within_by entry k f e (inl h) = h
within_by entry k f e (inr h) = let n : pin_fault_in entry [] entry.chip.inputs k ≡ None = no_pin entry [] entry.chip.inputs k (slice_get_past entry.chip.inputs k h) in absurd cc

first_pins : (entry : Entry) (f : NamedFault) → IsFirstOf (pin_fault_in entry [] entry.chip.inputs) f → IsFirstOf (pin_fault entry) f
first_pins entry f h =
    let n = length entry.chip.inputs in
    let lt : h.place < n = within_by entry h.place f h.there (below_or n h.place) in
    record { place = h.place; there = pin_left entry h.place lt ∙ h.there; first = λ k below. pin_left entry k (omega arith) ∙ h.first k below }

pub at_inputs : (entry : Entry) (e : ElabFault) → Tells (IsFirstOf (pin_fault_in entry [] entry.chip.inputs)) e → Tells (IsFirstOf (pin_fault entry)) e
at_inputs entry e h = tells_more _ _ e (first_pins entry) h

split_by : (entry : Entry) → ((k : ℕ) → pin_fault_in entry [] entry.chip.inputs k ≡ None) → (k m : ℕ) → ((j : ℕ) → j < m → pin_fault_in entry entry.chip.inputs entry.chip.outputs j ≡ None) → k < length entry.chip.inputs + m → (k < length entry.chip.inputs) ⊎ (length entry.chip.inputs ≤ k) → pin_fault entry k ≡ None
split_by entry left k m right h (inl lt) = pin_left entry k lt ∙ left k
split_by entry left k m right h (inr le) =
    let n = length entry.chip.inputs in
    let at : k ≡ n + (k - n) = omega arith in
    ap (pin_fault entry) at ∙ pin_right entry (k - n) ∙ right (k - n) (omega arith)

last_pins : (entry : Entry) → ((k : ℕ) → pin_fault_in entry [] entry.chip.inputs k ≡ None) → (f : NamedFault) → IsFirstOf (pin_fault_in entry entry.chip.inputs entry.chip.outputs) f → IsFirstOf (pin_fault entry) f
last_pins entry left f h = record {
  place = length entry.chip.inputs + h.place;
  there = pin_right entry h.place ∙ h.there;
  first = λ k below. split_by entry left k h.place h.first below (below_or (length entry.chip.inputs) k);
}

pub at_pins : (entry : Entry) (r : Result (Unit {0}) ElabFault) → ((k : ℕ) → pin_fault_in entry [] entry.chip.inputs k ≡ None) → FindsFirst (pin_fault_in entry entry.chip.inputs entry.chip.outputs) r → FindsFirst (pin_fault entry) r
at_pins entry (Ok u) left h = λ k. split_by entry left k (suc k) (λ j lt. h j) (omega arith) (below_or (length entry.chip.inputs) k)
at_pins entry (Err e) left h = tells_more _ _ e (last_pins entry left) h

-- ---- connections

pub connection_is : (chips : Chips) (entry : Entry) (i : ℕ) (ports : List (List ℕ × Port)) (conns : List Connection) (j : ℕ) (conn : Connection) → slice_get conns j ≡ Some conn →
    connection_fault_in chips entry i ports conns j ≡ connection_fault (context chips entry i ports conns j) ports conn
connection_is chips entry i ports conns j conn e = ap (connection_fault_at (context chips entry i ports conns j) ports) e

pub no_connection : (chips : Chips) (entry : Entry) (i : ℕ) (ports : List (List ℕ × Port)) (conns : List Connection) (j : ℕ) → slice_get conns j ≡ None → connection_fault_in chips entry i ports conns j ≡ None
no_connection chips entry i ports conns j e = ap (connection_fault_at (context chips entry i ports conns j) ports) e

pub sees_round : (chips : Chips) (entry : Entry) (scope : Scope) (i : ℕ) (ports : List (List ℕ × Port)) (conns : List Connection) (j : ℕ) → SeesChip chips entry scope → SeesScope scope (context chips entry i ports conns j)
sees_round chips entry scope i ports conns j s = record { chip = s.chip; own = s.own; nets = s.nets }

pub output_fault : (entry : Entry) (m : ℕ) → pin_fault entry (length entry.chip.inputs + m) ≡ twice_fault entry.name (map pin_name (entry.chip.inputs ++ take m entry.chip.outputs)) (slice_get entry.chip.outputs m)
output_fault entry m = pin_right entry m
