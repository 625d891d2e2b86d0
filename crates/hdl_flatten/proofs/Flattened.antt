-- A chip whose nodes stand after the constants and its input bits is flat.
use Rattle.std.proofs.Common.{◌≡◌, ℕ, zero, suc, ◌+◌, ◌<◌, ◌≤◌, ◌⊎◌, inl, inr, Bool, true, false, cond, codes, get_or, ◌&&◌, ◌||◌, nat_eq, take, List, [], ◌∷◌, ◌++◌, length, length-append, Option, Some, None, map, refl, sym, ap, subst, ◌∙◌, arith}
use Rattle.std.specs.Str.{bytes_eq}
use Rattle.std.specs.Prelude.{not, slice_get, slice_index, unwrap_or}
use Rattle.std.specs.List.{All}
use Rattle.std.specs.Cmp.Lexicographic.{bytes_decides}
use Rattle.std.proofs.lemmas.Bool.Decides.{Decides-eqb}
use Rattle.std.proofs.lemmas.Option.{slice_get_read}
use Rattle.std.proofs.lemmas.List.Elements.{All-append}
use Rattle.hdl_tree.specs.declared.tree.Pin.{Pin}
use Rattle.hdl_tree.specs.declared.library.Entry.{Entry}
use Rattle.hdl_tree.specs.Writable.{is_among}
use Rattle.hdl_tree.specs.declared.ends.End.{End}
use Rattle.hdl_tree.specs.declared.ends.End.TheVariants as ends
use Rattle.hdl_tree.specs.Chips.{Chips, end_of, find_chip, pin_width}
use Rattle.hdl_tree.specs.Behaviour.{Wires, chip_at, ChipWired}
use Rattle.name_table.specs.Names.{first_of}
use Rattle.hdl_check.specs.Tables.{BitOf, bits_of, is_in}
use Rattle.hdl_check.specs.Faults.{pin_name, twice_fault, pin_fault}
use Rattle.hdl_check.specs.Locations.{AtPin, unless}
use Rattle.hdl_check.specs.declared.fault.NamedFault.{NamedFault}
use Rattle.netlist.specs.Net.{Net}
use Rattle.hdl_nodes.specs.Numbering.{EndStands}
use Rattle.netlist.specs.Order.{HasInputs}
use Rattle.netlist.specs.declared.node.Node.{Node}
use Rattle.netlist.specs.declared.node.Node.TheVariants as nodes
use Rattle.netlist.specs.declared.node.Block.{Block}
use Rattle.hdl_flatten.specs.declared.wires.Origin.{Origin}
use Rattle.hdl_flatten.specs.declared.wires.Origin.TheVariants.{Low, Input}
use Rattle.hdl_flatten.specs.declared.plan.Plan.{Plan}
use Rattle.hdl_flatten.specs.declared.flat.PinAt.{PinAt}
use Rattle.hdl_flatten.specs.declared.flat.PartAt.{PartAt}
use Rattle.hdl_flatten.specs.declared.flat.Flat.{Flat}
use Rattle.hdl_flatten.specs.declared.flat.Growing.{Growing}
use Rattle.hdl_flatten.specs.Trees.{all_bits, bit_count, end_nodes, chip_nodes, part_nodes, node_count, capped_count}
use Rattle.hdl_flatten.specs.Flat.{Reads, nodes_at, pin_at, block_at, part_at, NeedsFew, IsEndBit, IsEndBlock, IsFlat}
use Rattle.hdl_flatten.specs.Ends.{named_pins, end_inputs, EndsHavePins}
use Rattle.hdl_flatten.specs.declared.nest.Nest.{Nest}
use Rattle.hdl_flatten.specs.declared.nest.Nested.{Nested}
use Rattle.hdl_flatten.specs.Inner.Nests.{IsNestOf}
use Rattle.hdl_flatten.specs.Inner.Plans.{numbered_bits, ArePlans, IsPlanned, FollowNest}
use Rattle.hdl_flatten.specs.Inner.Puts.{node_of, IsPlaced}
use Rattle.hdl_flatten.specs.Inner.Wired.{wires_of, found_bit, origin_at}
use Rattle.hdl_flatten.specs.Inner.Putting.{AreWithin, own_nodes, constants, from_two, pins, MayPut, ReadsBelow, HasWords, IsPut}
use Rattle.hdl_flatten.proofs.Lists.{get_front, last_or, Behind, split_get, below_or}
use Rattle.hdl_check.proofs.MarkLemmas.{both}
use Rattle.hdl_flatten.proofs.Wiring.{found-append}
use Rattle.hdl_flatten.proofs.Gates.{rest}
use Rattle.hdl_flatten.proofs.Planning.{length_map, length_bits}
use Rattle.hdl_flatten.proofs.Reading.{number_of, or_true, or_left}
use Rattle.hdl_flatten.proofs.Within.{chip_within}
use Rattle.hdl_flatten.proofs.Sized.{plan_sized}
use Rattle.hdl_flatten.proofs.Words.{length_pins, first_words}
use Rattle.hdl_flatten.proofs.Putting.{longer_none, all_one, all_none, lt_or, pins_at, pins_read, map_both, node_below, wider}

-- ---- bits of pins by number

bit_at : (name : List ℕ) (from n k : ℕ) (b : BitOf) → slice_get (bits_of name from n) k ≡ Some b → (b.name ≡ name) × (b.bit ≡ from + k)
bit_at name from zero k b e = absurd cc
bit_at name from (suc n) k b e = by (bit_at name from n k b) (last_or (bits_of name from n) (record { name = name; bit = from + n }) b k e)
  where
    by : (slice_get (bits_of name from n) k ≡ Some b → (b.name ≡ name) × (b.bit ≡ from + k)) → (slice_get (bits_of name from n) k ≡ Some b) ⊎ ((k ≡ length (bits_of name from n)) × (record { name = name; bit = from + n } ≡ b)) → (b.name ≡ name) × (b.bit ≡ from + k)
    by go (inl h) = go h
    by go (inr h) = let long = length_bits name from n in let at : k ≡ n = h.0 ∙ long in (sym (ap (λ (z : BitOf). z.name) h.1), sym (ap (λ (z : BitOf). z.bit) h.1) ∙ ap (λ m. from + m) (sym at))

record HasName (ps : List Pin) (name : List ℕ) : Type 0 where
  k : ℕ
  pin : Pin
  there : slice_get ps k ≡ Some pin
  name_is : name ≡ pin.name

pin_of : (ps : List Pin) (i : ℕ) (b : BitOf) → slice_get (all_bits ps) i ≡ Some b → HasName ps b.name
pin_of [] i b e = absurd cc
pin_of (p ∷ ps) i b e = by (λ j h. pin_of ps j b h) (split_get (bits_of p.name 0 (pin_width p)) (all_bits ps) i b e)
  where
    by : ((j : ℕ) → slice_get (all_bits ps) j ≡ Some b → HasName ps b.name) → (slice_get (bits_of p.name 0 (pin_width p)) i ≡ Some b) ⊎ Behind (bits_of p.name 0 (pin_width p)) (all_bits ps) i b → HasName (p ∷ ps) b.name
    by go (inl h) = record { k = 0; pin = p; there = refl; name_is = (bit_at p.name 0 (pin_width p) i b h).0 }
    by go (inr h) = let r = go h.j h.there in record { k = suc r.k; pin = r.pin; there = r.there; name_is = r.name_is }

-- ---- pins of different names

abbrev Untwiced : List ℕ → List Pin → Type 0
Untwiced chip ps = (k : ℕ) → twice_fault chip (map pin_name (take k ps)) (slice_get ps k) ≡ None

cond_right : (f : NamedFault) (t u : Bool) → cond (t || u) (Some f) None ≡ None → cond u (Some f) None ≡ None
cond_right f true u h = absurd cc
cond_right f false u h = h

cond_left : (f : NamedFault) (t u : Bool) → cond (t || u) (Some f) None ≡ None → t ≡ false
cond_left f true u h = absurd cc
cond_left f false u h = refl

twice_right : (chip name : List ℕ) (names : List (List ℕ)) (o : Option Pin) → twice_fault chip (name ∷ names) o ≡ None → twice_fault chip names o ≡ None
twice_right chip name names None h = refl
twice_right chip name names (Some q) h = cond_right _ (bytes_eq q.name name) (is_among q.name names) h

twice_left : (chip name : List ℕ) (names : List (List ℕ)) (q : Pin) → twice_fault chip (name ∷ names) (Some q) ≡ None → bytes_eq q.name name ≡ false
twice_left chip name names q h = cond_left _ (bytes_eq q.name name) (is_among q.name names) h

untwiced_rest : (chip : List ℕ) (p : Pin) (ps : List Pin) → Untwiced chip (p ∷ ps) → Untwiced chip ps
untwiced_rest chip p ps h k = twice_right chip p.name (map pin_name (take k ps)) (slice_get ps k) (h (suc k))

-- no pin has the name of an earlier one
abbrev AreApart : List Pin → Type 0
AreApart [] = Unit {0}
AreApart (p ∷ ps) = ((k : ℕ) (q : Pin) → slice_get ps k ≡ Some q → bytes_eq q.name p.name ≡ false) × AreApart ps

untwiced_apart : (chip : List ℕ) (ps outs : List Pin) → Untwiced chip (ps ++ outs) → AreApart ps
untwiced_apart chip [] outs h = tt
untwiced_apart chip (p ∷ ps) outs h = (
  λ k q at.
      let there : slice_get (ps ++ outs) k ≡ Some q = get_front ps outs k q at in
      twice_left chip p.name (map pin_name (take k (ps ++ outs))) q (sym (ap (twice_fault chip (p.name ∷ map pin_name (take k (ps ++ outs)))) there) ∙ h (suc k)),
  untwiced_apart chip ps outs (untwiced_rest chip p (ps ++ outs) h),
)

abbrev no_other : List ℕ → List (List ℕ × ℕ) → Bool
no_other name [] = true
no_other name (e ∷ es) = not (bytes_eq e.0 name) && no_other name es

abbrev no_twice : List (List ℕ × ℕ) → Bool
no_twice [] = true
no_twice (e ∷ es) = no_other e.0 es && no_twice es

not_true : (b : Bool) → not b ≡ true → b ≡ false
not_true true h = absurd cc
not_true false h = refl

other_of : (name : List ℕ) (ps : List Pin) → no_other name (named_pins ps) ≡ true → (k : ℕ) (q : Pin) → slice_get ps k ≡ Some q → bytes_eq q.name name ≡ false
other_of name [] h k q at = absurd cc
other_of name (p ∷ ps) h zero q at =
    let same : p ≡ q = cc in
    ap (λ (z : Pin). bytes_eq z.name name) (sym same) ∙ not_true (bytes_eq p.name name) (both (not (bytes_eq p.name name)) (no_other name (named_pins ps)) h).0
other_of name (p ∷ ps) h (suc k) q at = other_of name ps (both (not (bytes_eq p.name name)) (no_other name (named_pins ps)) h).1 k q at

apart_of : (ps : List Pin) → no_twice (named_pins ps) ≡ true → AreApart ps
apart_of [] h = tt
apart_of (p ∷ ps) h =
    let two = both (no_other p.name (named_pins ps)) (no_twice (named_pins ps)) h in
    (other_of p.name ps two.0, apart_of ps two.1)

ends_apart : (e : End) → no_twice (end_inputs e) ≡ true
ends_apart ends.Nand = refl
ends_apart ends.Dff = refl
ends_apart ends.Keyboard = refl
ends_apart ends.Rom = refl
ends_apart (ends.Block bits) = refl

named_apart : (p : Pin) (ps : List Pin) (name : List ℕ) → AreApart (p ∷ ps) → HasName ps name → name ≡ p.name → ⊥
named_apart p ps name h n e =
    let no : bytes_eq n.pin.name p.name ≡ false = h.0 n.k n.pin n.there in
    let yes : bytes_eq n.pin.name p.name ≡ true = (bytes_decides n.pin.name p.name).1 (sym n.name_is ∙ e) in
    let wrong : true ≡ false = sym yes ∙ no in
    absurd cc

bit_once : (ps : List Pin) → AreApart ps → (i j : ℕ) (a b : BitOf) → slice_get (all_bits ps) i ≡ Some a → slice_get (all_bits ps) j ≡ Some b → a.name ≡ b.name → a.bit ≡ b.bit → i ≡ j
bit_once [] u i j a b e f name bit = absurd cc
bit_once (p ∷ ps) u i j a b e f name bit = by (λ m n g h. bit_once ps u.1 m n a b g h name bit) (split_get (bits_of p.name 0 (pin_width p)) (all_bits ps) i a e) (split_get (bits_of p.name 0 (pin_width p)) (all_bits ps) j b f)
  where
    by : ((m n : ℕ) → slice_get (all_bits ps) m ≡ Some a → slice_get (all_bits ps) n ≡ Some b → m ≡ n) → (slice_get (bits_of p.name 0 (pin_width p)) i ≡ Some a) ⊎ Behind (bits_of p.name 0 (pin_width p)) (all_bits ps) i a → (slice_get (bits_of p.name 0 (pin_width p)) j ≡ Some b) ⊎ Behind (bits_of p.name 0 (pin_width p)) (all_bits ps) j b → i ≡ j
    by go (inl h) (inl k) =
        let x : a.bit ≡ 0 + i = (bit_at p.name 0 (pin_width p) i a h).1 in
        let y : b.bit ≡ 0 + j = (bit_at p.name 0 (pin_width p) j b k).1 in
        omega (arith, x, y, bit)
    by go (inl h) (inr k) = absurd (named_apart p ps b.name u (pin_of ps k.j b k.there) (sym name ∙ (bit_at p.name 0 (pin_width p) i a h).0))
    by go (inr h) (inl k) = absurd (named_apart p ps a.name u (pin_of ps h.j a h.there) (name ∙ (bit_at p.name 0 (pin_width p) j b k).0))
    by go (inr h) (inr k) =
        let same : h.j ≡ k.j = go h.j k.j h.there k.there in
        let x = h.at in
        let y = k.at in
        omega (arith, x, y, same)

and_true : (t u : Bool) → t ≡ true → u ≡ true → (t && u) ≡ true
and_true true u e f = f
and_true false u e f = absurd cc

in_there : (bits : List BitOf) (k : ℕ) (b : BitOf) → slice_get bits k ≡ Some b → is_in b.name b.bit bits ≡ true
in_there [] k b e = absurd cc
in_there (x ∷ bits) zero b e =
    let same : b ≡ x = cc in
    or_left (bytes_eq b.name x.name && nat_eq b.bit x.bit) (is_in b.name b.bit bits)
    (and_true (bytes_eq b.name x.name) (nat_eq b.bit x.bit) ((bytes_decides b.name x.name).1 (ap (λ (z : BitOf). z.name) same)) ((Decides-eqb b.bit x.bit).1 (ap (λ (z : BitOf). z.bit) same)))
in_there (x ∷ bits) (suc k) b e = or_true (bytes_eq b.name x.name && nat_eq b.bit x.bit) (is_in b.name b.bit bits) (in_there bits k b e)

count_is : (ps : List Pin) → length (all_bits ps) ≡ bit_count ps
count_is [] = refl
count_is (p ∷ ps) = omega (arith, length-append (bits_of p.name 0 (pin_width p)) (all_bits ps), length_bits p.name 0 (pin_width p), count_is ps)

-- ---- the nodes of the input bits

pub long_two : (n : ℕ) → length (from_two n) ≡ n
long_two zero = refl
long_two (suc n) = omega (arith, length-append (from_two n) ((n + 2) ∷ []), long_two n)

index_front : (xs ys : List ℕ) (k : ℕ) → k < length xs → slice_index (xs ++ ys) k ≡ slice_index xs k
index_front [] ys k lt = absurd (omega (arith, lt))
index_front (x ∷ xs) ys zero lt = refl
index_front (x ∷ xs) ys (suc k) lt = index_front xs ys k (omega (arith, lt))

index_last : (xs : List ℕ) (x k : ℕ) → k ≡ length xs → slice_index (xs ++ x ∷ []) k ≡ x
index_last [] x zero e = refl
index_last [] x (suc k) e = absurd (omega (arith, e))
index_last (y ∷ xs) x zero e = absurd (omega (arith, e))
index_last (y ∷ xs) x (suc k) e = index_last xs x k (omega (arith, e))

index_two : (n k : ℕ) → k < n → slice_index (from_two n) k ≡ k + 2
index_two zero k lt = absurd (omega (arith, lt))
index_two (suc n) k lt = by (index_two n k) (lt_or n k lt)
  where
    by : (k < n → slice_index (from_two n) k ≡ k + 2) → (k < n) ⊎ (k ≡ n) → slice_index (from_two n ++ (n + 2) ∷ []) k ≡ k + 2
    by go (inl h) = let long = long_two n in index_front (from_two n) ((n + 2) ∷ []) k (omega (arith, long, h)) ∙ go h
    by go (inr h) = let long = long_two n in index_last (from_two n) (n + 2) k (omega (arith, long, h)) ∙ ap (λ m. m + 2) (sym h)

two_below : (m n : ℕ) → n + 2 ≤ m → All (λ i. i < m) (from_two n)
two_below m zero le k d lt = absurd (omega (arith, lt))
two_below m (suc n) le k d lt = All-append (λ i. i < m) (from_two n) ((n + 2) ∷ []) (two_below m n (omega (arith, le))) (all_one (λ i. i < m) (n + 2) (omega (arith, le))) k d lt

-- ---- the first nodes

abbrev first_nodes : ℕ → List Node
first_nodes n = constants ++ pins n

first_long : (n : ℕ) → length (first_nodes n) ≡ n + 2
first_long n = let long = length_pins n in omega (arith, length-append constants (pins n), long)

first_low : (n : ℕ) → slice_get (first_nodes n) 0 ≡ Some nodes.Zero
first_low n = refl

first_high : (n : ℕ) → slice_get (first_nodes n) 1 ≡ Some (nodes.Nand 0 0)
first_high n = refl

first_pin : (n k : ℕ) → k < n → slice_get (first_nodes n) (k + 2) ≡ Some nodes.Pin
first_pin n k lt = let at : k + 2 ≡ suc (suc k) = omega arith in ap (slice_get (constants ++ pins n)) at ∙ pins_at n k lt

first_read : (n m b : ℕ) → 0 < m → All (Reads m b) (first_nodes n)
first_read n m b lt = All-append (Reads m b) constants (pins n) (All-append (Reads m b) (nodes.Zero ∷ []) (nodes.Nand 0 0 ∷ []) (all_one (Reads m b) nodes.Zero tt) (all_one (Reads m b) (nodes.Nand 0 0) (lt, lt))) (pins_read m b n)

-- all are so, one by one
each : {X : Type 0} (P : X → Type 0) (xs : List X) → All P xs → (k : ℕ) (x : X) → slice_get xs k ≡ Some x → P x
each P [] h k x e = absurd cc
each P (y ∷ xs) h zero x e = let same : y ≡ x = cc in subst P same (h 0 x (omega arith))
each P (y ∷ xs) h (suc k) x e = each P xs (λ i d lt. h (suc i) d (omega (arith, lt))) k x e

within_get : {X : Type 0} (xs : List X) (k : ℕ) (x : X) → slice_get xs k ≡ Some x → k < length xs
within_get [] k x e = absurd cc
within_get (y ∷ xs) zero x e = omega arith
within_get (y ∷ xs) (suc k) x e = let h = within_get xs k x e in omega (arith, h)

-- ---- the whole

pub record Top (chips : Chips) (name : List ℕ) (plans : List Plan) (place : ℕ) (plan : Plan) : Type 0 where
  pub are : ArePlans chips plans
  pub ends : EndsHavePins chips
  pub there : slice_get plans place ≡ Some plan
  pub found : find_chip chips name ≡ Some plan.entry.now
  pub few : NeedsFew chips name

pub top_place : (chips : Chips) (name : List ℕ) (nest : Nest) (plans : List Plan) → IsNestOf chips name nest → length plans ≡ length nest.chips.items → nest.top < length plans
top_place chips name nest plans is long = let lt = within_get nest.chips.items nest.top is.nested is.at in omega (arith, lt, long)

pub top_of : (chips : Chips) (name : List ℕ) (nest : Nest) (plans : List Plan) (plan : Plan) → IsNestOf chips name nest → ArePlans chips plans → FollowNest nest.chips.items plans → length plans ≡ length nest.chips.items → EndsHavePins chips → NeedsFew chips name → plan ≡ get_or plans nest.top plan → Top chips name plans nest.top plan
top_of chips name nest plans plan is are follow long ends few e =
    let there : slice_get plans nest.top ≡ Some plan = slice_get_read plans (length plans) nest.top plan refl (top_place chips name nest plans is long) e in
    let number : plan.number ≡ is.nested.number = follow nest.top is.nested plan is.at there in
    let both : Some is.chip ≡ Some plan.entry.now = sym is.there ∙ ap (slice_get chips.entries) (sym number) ∙ (are nest.top plan there).there in
    record { are = are; ends = ends; there = there; found = is.found ∙ both; few = few }

record InputBit (plan : Plan) (name : List ℕ) (bit : ℕ) : Type 0 where
  k : ℕ
  below : k < length plan.inputs.items
  origin : origin_at (wires_of plan.wires) name bit ≡ Input k
  at : BitOf
  there : slice_get (all_bits plan.entry.now.chip.inputs) k ≡ Some at
  name_is : name ≡ at.name
  bit_is : bit ≡ at.bit

module _ (chips : Chips) (name : List ℕ) (plans : List Plan) (place : ℕ) (plan : Plan) (t : Top chips name plans place plan) where
  planned : IsPlanned chips plans place plan
  planned = t.are place plan t.there

  pub input_count : length plan.inputs.items ≡ bit_count plan.entry.now.chip.inputs
  input_count = sym (length_map plan.inputs.items) ∙ ap length planned.inputs ∙ count_is plan.entry.now.chip.inputs

  pub top_fits : (length plan.inputs.items + plan.size.nodes) + 2 ≤ 16777216
  top_fits =
      let s = plan_sized chips plans t.are place plan t.there in
      let few = t.few plan.entry.now s.tree t.found s.listed in
      let size : plan.size.nodes ≡ capped_count (chip_nodes chips plan.entry.now + part_nodes chips s.tree) = s.nodes in
      let ins = input_count in
      omega (arith, few, size, ins)

  pub top_within : AreWithin (length plan.inputs.items) plan.size.nodes (wires_of plan.wires)
  top_within = let fits = top_fits in chip_within chips plans t.are t.ends place plan t.there (omega (arith, fits))

  pub all_within : AreWithin (length plan.inputs.items) 16777216 (wires_of plan.wires)
  all_within pin bit = let fits = top_fits in wider (length plan.inputs.items) plan.size.nodes 16777216 (origin_at (wires_of plan.wires) pin bit) (omega (arith, fits)) (top_within pin bit)

  pub top_may : (inputs : List ℕ) (flat : Growing) → length inputs ≡ length plan.inputs.items → flat.nodes.items ≡ constants ++ pins (length inputs) → flat.blocks.items ≡ [] → MayPut plans place inputs flat
  top_may inputs flat long e f =
      let ln = ap length e ∙ first_long (length inputs) in
      let lb = ap length f in
      let fits = top_fits in
      record {
        plan = plan;
        there = t.there;
        long = long;
        room = omega (arith, ln, long, fits);
        few = omega (arith, ln, lb);
      }

  input_bit : (k : ℕ) (b : BitOf) → slice_get (all_bits plan.entry.now.chip.inputs) k ≡ Some b → InputBit plan b.name b.bit
  input_bit k b e =
      let bits = all_bits plan.entry.now.chip.inputs in
      let n = number_of Input 0 bits b.name b.bit (in_there bits k b e) in
      let behind = rest chips plans t.ends place plan planned in
      let start : 0 + n.k ≡ n.k = omega arith in
      let long = sym (length_map plan.inputs.items) ∙ ap length planned.inputs in
      let below = within_get bits n.k n.at n.there in
      record {
        k = n.k;
        below = omega (arith, long, below);
        origin = ap (λ (o : Option Origin). unwrap_or o Low) (planned.wires b.name b.bit ∙ found-append b.name b.bit (numbered_bits Input 0 bits) behind ∙ ap (λ (o : Option Origin). first_of o (found_bit b.name b.bit behind)) n.found) ∙ ap Input start;
        at = n.at;
        there = n.there;
        name_is = n.name_is;
        bit_is = n.bit_is;
      }

  apart_by : (o : Option End) → end_of chips.memories plan.entry.now ≡ o → AreApart plan.entry.now.chip.inputs
  apart_by None is = untwiced_apart plan.entry.now.name plan.entry.now.chip.inputs plan.entry.now.chip.outputs (λ k. sym (ap (λ (o : Option End). unless o (pin_fault plan.entry.now k)) is) ∙ planned.fine.faultless (AtPin k))
  apart_by (Some e) is = apart_of plan.entry.now.chip.inputs (ap no_twice (t.ends planned.fine.name plan.entry.now e planned.fine.found is).inputs ∙ ends_apart e)

  input_once : (i j : ℕ) (a b : BitOf) → slice_get (all_bits plan.entry.now.chip.inputs) i ≡ Some a → slice_get (all_bits plan.entry.now.chip.inputs) j ≡ Some b → a.name ≡ b.name → a.bit ≡ b.bit → i ≡ j
  input_once = bit_once plan.entry.now.chip.inputs (apart_by (end_of chips.memories plan.entry.now) refl)

bits_same : (v w : Wires ℕ) → ((name : List ℕ) (bit : ℕ) → w name bit ≡ v name bit) → (bits : List BitOf) → nodes_at v bits ≡ nodes_at w bits
bits_same v w h [] = refl
bits_same v w h (b ∷ bits) = ap (λ (t : List ℕ). v b.name b.bit ∷ t) (bits_same v w h bits) ∙ ap (λ (n : ℕ). n ∷ nodes_at w bits) (sym (h b.name b.bit))

pins_same : (v w : Wires ℕ) → ((name : List ℕ) (bit : ℕ) → w name bit ≡ v name bit) → (ps : List Pin) → map (pin_at v) ps ≡ map (pin_at w) ps
pins_same v w h [] = refl
pins_same v w h (p ∷ ps) =
    ap (λ (t : List PinAt). pin_at v p ∷ t) (pins_same v w h ps)
    ∙ ap (λ (ns : List ℕ). record { name = p.name; nodes = ns } ∷ map (pin_at w) ps) (bits_same v w h (bits_of p.name 0 (pin_width p)))

bits_below : (w : Wires ℕ) (n : ℕ) → ((name : List ℕ) (bit : ℕ) → w name bit < n) → (bits : List BitOf) → All (λ i. i < n) (nodes_at w bits)
bits_below w n h [] k d lt = absurd (omega (arith, lt))
bits_below w n h (b ∷ bits) zero d lt = h b.name b.bit
bits_below w n h (b ∷ bits) (suc k) d lt = bits_below w n h bits k d (omega (arith, lt))

pins_below : (w : Wires ℕ) (n : ℕ) → ((name : List ℕ) (bit : ℕ) → w name bit < n) → (ps : List Pin) → All (λ p. All (λ i. i < n) p.nodes) (map (pin_at w) ps)
pins_below w n h [] k d lt = absurd (omega (arith, lt))
pins_below w n h (p ∷ ps) zero d lt = bits_below w n h (bits_of p.name 0 (pin_width p))
pins_below w n h (p ∷ ps) (suc k) d lt = pins_below w n h ps k d (omega (arith, lt))

same_node : (a b : Node) → Some a ≡ Some b → a ≡ b
same_node a b h = cc

same_bit : (a b : BitOf) → Some a ≡ Some b → a ≡ b
same_bit a b h = cc

-- ---- ends that have a block

record WithBlock (o : Option End) (n b : ℕ) : Type 0 where
  e : End
  is_end : o ≡ Some e
  number : n ≡ b
  below : 0 < end_nodes (Some e)
  stands : (net : Net) (at : Wires ℕ) → EndStands net 0 n e at → slice_get net.nodes (at (codes "out") 0) ≡ Some (nodes.Word n 0)

with_block : (o : Option End) (n b : ℕ) → block_at o n ≡ Some b → WithBlock o n b
with_block None n b h = absurd cc
with_block (Some ends.Nand) n b h = absurd cc
with_block (Some ends.Dff) n b h = absurd cc
with_block (Some ends.Keyboard) n b h = absurd cc
with_block (Some ends.Rom) n b h = record { e = ends.Rom; is_end = refl; number = cc; below = omega arith; stands = λ net at s. s.words 0 (omega arith) }
with_block (Some (ends.Block bits)) n b h = record { e = ends.Block bits; is_end = refl; number = cc; below = omega arith; stands = λ net at s. s.words 0 (omega arith) }

is_word : (b n c m : ℕ) → Some (nodes.Word b n) ≡ Some (nodes.Word c m) → Some b ≡ Some c
is_word b n c m h = cc

-- an end at whose output stands the word of a block has that block
its_block : (net : Net) (n : ℕ) (e : End) (at : Wires ℕ) (bit b : ℕ) → EndStands net 0 n e at → bit < end_nodes (Some e) → slice_get net.nodes (at (codes "out") bit) ≡ Some (nodes.Word b 0) → block_at (Some e) n ≡ Some b
its_block net n ends.Nand at bit b s lt h =
    let first : bit ≡ 0 = omega (arith, lt) in
    let both : Some (nodes.Nand (at (codes "a") 0) (at (codes "b") 0)) ≡ Some (nodes.Word b 0) = sym s ∙ ap (λ (k : ℕ). slice_get net.nodes (at (codes "out") k)) (sym first) ∙ h in
    absurd cc
its_block net n ends.Dff at bit b s lt h =
    let first : bit ≡ 0 = omega (arith, lt) in
    let both : Some (nodes.Flip (at (codes "in") 0)) ≡ Some (nodes.Word b 0) = sym s ∙ ap (λ (k : ℕ). slice_get net.nodes (at (codes "out") k)) (sym first) ∙ h in
    absurd cc
its_block net n ends.Keyboard at bit b s lt h = let both : Some nodes.Pin ≡ Some (nodes.Word b 0) = sym (s bit lt) ∙ h in absurd cc
its_block net n ends.Rom at bit b s lt h = is_word n bit b 0 (sym (s.words bit lt) ∙ h)
its_block net n (ends.Block bits) at bit b s lt h = is_word n bit b 0 (sym (s.words bit lt) ∙ h)

module _ (chips : Chips) (name : List ℕ) (plans : List Plan) (place : ℕ) (plan : Plan) (t : Top chips name plans place plan) (inputs : List ℕ) (old new : Growing) (fed : inputs ≡ from_two (length plan.inputs.items)) (begun : old.nodes.items ≡ constants ++ pins (length inputs)) (no_blocks : old.blocks.items ≡ []) (no_parts : old.parts ≡ []) (put : IsPut chips plan inputs old new) where
  abbrev net : Net
  net = record { nodes = new.nodes.items; blocks = new.blocks.items }

  placed : IsPlaced chips net plan (length old.nodes.items) inputs put.block put.at
  placed = put.placed net (longer_none new.nodes.items) (longer_none new.blocks.items)

  fed_long : length inputs ≡ length plan.inputs.items
  fed_long = ap length fed ∙ long_two (length plan.inputs.items)

  base_is : length old.nodes.items ≡ length plan.inputs.items + 2
  base_is = ap length begun ∙ first_long (length inputs) ∙ ap (λ n. n + 2) fed_long

  stands : (k : ℕ) (x : Node) → slice_get (first_nodes (length inputs)) k ≡ Some x → slice_get new.nodes.items k ≡ Some x
  stands k x h = ap (λ (l : List Node). slice_get l k) (put.nodes.longer ∙ ap (λ (l : List Node). l ++ put.nodes.more) begun) ∙ get_front (constants ++ pins (length inputs)) put.nodes.more k x h

  count : length new.nodes.items ≡ node_count chips plan.entry.now put.tree
  count =
      let few = t.few plan.entry.now put.tree t.found put.listed in
      let size : length new.nodes.items ≡ length old.nodes.items + plan.size.nodes = put.size in
      let counted : plan.size.nodes ≡ capped_count (chip_nodes chips plan.entry.now + part_nodes chips put.tree) = put.counted in
      let ins = input_count chips name plans place plan t in
      let base = base_is in
      omega (arith, few, size, counted, ins, base)

  reads : ReadsBelow (length new.nodes.items) (length new.blocks.items) new
  reads =
      let size : length new.nodes.items ≡ length old.nodes.items + plan.size.nodes = put.size in
      let base = base_is in
      put.reads (length new.nodes.items) (length new.blocks.items)
      (subst (λ (is : List ℕ). All (λ i. i < length new.nodes.items) is) (sym fed) (two_below (length new.nodes.items) (length plan.inputs.items) (omega (arith, size, base))))
      (omega (arith, size, base)) (omega (arith, size)) (omega arith)
      (record {
        nodes = subst (λ (l : List Node). All (Reads (length new.nodes.items) (length new.blocks.items)) l) (sym begun) (first_read (length inputs) (length new.nodes.items) (length new.blocks.items) (omega (arith, size, base)));
        blocks = subst (λ (l : List Block). All (HasInputs (length new.nodes.items)) l) (sym no_blocks) (all_none (HasInputs (length new.nodes.items)));
        parts = subst (λ (l : List PartAt). All (λ p. All (λ i. i < length new.nodes.items) p.outs) l) (sym no_parts) (all_none (λ (p : PartAt). All (λ i. i < length new.nodes.items) p.outs));
      })

  words_are : HasWords new.nodes.items (length new.blocks.items)
  words_are = put.words (subst (λ (l : List Block). HasWords old.nodes.items (length l)) (sym no_blocks) (subst (λ (l : List Node). HasWords l 0) (sym begun) (first_words (length inputs))))

  -- a bit of the chip
  bit_below : (pin : List ℕ) (bit : ℕ) → put.at [] pin bit < length new.nodes.items
  bit_below pin bit =
      let size : length new.nodes.items ≡ length old.nodes.items + plan.size.nodes = put.size in
      let base = base_is in
      subst (λ (n : ℕ). n < length new.nodes.items) (sym (placed.own pin bit))
      (node_below (length old.nodes.items) inputs (length plan.inputs.items) plan.size.nodes (length new.nodes.items) (origin_at (wires_of plan.wires) pin bit) fed_long
      (subst (λ (is : List ℕ). All (λ i. i < length new.nodes.items) is) (sym fed) (two_below (length new.nodes.items) (length plan.inputs.items) (omega (arith, size, base))))
      (omega (arith, size, base)) (omega (arith, size)) (top_within chips name plans place plan t pin bit))

  input_node : (b : BitOf) (i : InputBit plan b.name b.bit) → put.at [] b.name b.bit ≡ i.k + 2
  input_node b i =
      placed.own b.name b.bit ∙ ap (node_of (length old.nodes.items) inputs) i.origin ∙ ap (λ (is : List ℕ). slice_index is i.k) fed ∙ index_two (length plan.inputs.items) i.k i.below

  input_pin : (k : ℕ) (b : BitOf) → slice_get (all_bits plan.entry.now.chip.inputs) k ≡ Some b → slice_get new.nodes.items (put.at [] b.name b.bit) ≡ Some nodes.Pin
  input_pin k b e =
      let i = input_bit chips name plans place plan t k b e in
      let long = fed_long in
      let below = i.below in
      ap (slice_get new.nodes.items) (input_node b i) ∙ stands (i.k + 2) nodes.Pin (first_pin (length inputs) i.k (omega (arith, long, below)))

  inputs_apart : (i j : ℕ) (a b : BitOf) → slice_get (all_bits plan.entry.now.chip.inputs) i ≡ Some a → slice_get (all_bits plan.entry.now.chip.inputs) j ≡ Some b → put.at [] a.name a.bit ≡ put.at [] b.name b.bit → i ≡ j
  inputs_apart i j a b e f same =
      let x = input_bit chips name plans place plan t i a e in
      let y = input_bit chips name plans place plan t j b f in
      let sums : x.k + 2 ≡ y.k + 2 = sym (input_node a x) ∙ same ∙ input_node b y in
      let k_is : x.k ≡ y.k = omega (arith, sums) in
      let at : x.at ≡ y.at = same_bit x.at y.at (sym x.there ∙ ap (slice_get (all_bits plan.entry.now.chip.inputs)) k_is ∙ y.there) in
      input_once chips name plans place plan t i j a b e f (x.name_is ∙ ap (λ (z : BitOf). z.name) at ∙ sym y.name_is) (x.bit_is ∙ ap (λ (z : BitOf). z.bit) at ∙ sym y.bit_is)

  inputs_outside : (i : ℕ) (b : BitOf) → slice_get (all_bits plan.entry.now.chip.inputs) i ≡ Some b → IsEndBit chips plan.entry.now put.at (put.at [] b.name b.bit) → ⊥
  inputs_outside i b e x =
      let bit = input_bit chips name plans place plan t i b e in
      let below = bit.below in
      let node = input_node b bit in
      let base = base_is in
      let from : length old.nodes.items ≤ put.at [] b.name b.bit = (placed.inside (put.at [] b.name b.bit) x).0 in
      omega (arith, below, node, base, from)

  early : (k : ℕ) (node : Node) → slice_get new.nodes.items k ≡ Some node → (node ≡ nodes.Pin → ⊥) → (k ≡ 0 → ⊥) → (k ≡ 1 → ⊥) → k < length plan.inputs.items + 2 → ⊥
  early zero node e f g h lt = g refl
  early (suc zero) node e f g h lt = h refl
  early (suc (suc k)) node e f g h lt =
      let at : k + 2 ≡ suc (suc k) = omega arith in
      let long = fed_long in
      f (same_node node nodes.Pin (sym e ∙ ap (slice_get new.nodes.items) (sym at) ∙ stands (k + 2) nodes.Pin (first_pin (length inputs) k (omega (arith, lt, long)))))

  end_bits : (k : ℕ) (node : Node) → slice_get new.nodes.items k ≡ Some node → (node ≡ nodes.Pin → ⊥) → (k ≡ 0 → ⊥) → (k ≡ 1 → ⊥) → IsEndBit chips plan.entry.now put.at k
  end_bits k node e f g h = by (below_or (length old.nodes.items) k)
    where
      by : (length old.nodes.items ≤ k) ⊎ (k < length old.nodes.items) → IsEndBit chips plan.entry.now put.at k
      by (inl le) =
          let size : length new.nodes.items ≡ length old.nodes.items + plan.size.nodes = put.size in
          let lt = within_get new.nodes.items k node e in
          placed.ends k le (omega (arith, size, lt))
      by (inr lt) = let base = base_is in absurd (early k node e f g h (omega (arith, base, lt)))

  -- ends and their blocks
  end_stands : (path : List ℕ) (chip : Entry) (e : End) → chip_at chips plan.entry.now path ≡ Some chip → end_of chips.memories chip ≡ Some e → EndStands net 0 (put.block path) e (put.at path)
  end_stands path chip e there is_end = subst (λ (o : Option End). ChipWired 0 1 chips chip o (put.at path) (λ i. put.at (path ++ i ∷ [])) (λ e. EndStands net 0 (put.block path) e (put.at path))) is_end (placed.wired path chip there)

  block_used : (b : ℕ) → b < length new.blocks.items → IsEndBlock chips plan.entry.now put.block b
  block_used b lt =
      let w = words_are.used b lt in
      let here : slice_get new.nodes.items w.k ≡ Some (nodes.Word b 0) = w.there in
      let no_low : w.k ≡ 0 → ⊥ = λ e. let both : Some nodes.Zero ≡ Some (nodes.Word b 0) = sym (stands 0 nodes.Zero (first_low (length inputs))) ∙ ap (slice_get new.nodes.items) (sym e) ∙ here in absurd cc in
      let no_high : w.k ≡ 1 → ⊥ = λ e. let both : Some (nodes.Nand 0 0) ≡ Some (nodes.Word b 0) = sym (stands 1 (nodes.Nand 0 0) (first_high (length inputs))) ∙ ap (slice_get new.nodes.items) (sym e) ∙ here in absurd cc in
      let x = end_bits w.k (nodes.Word b 0) here (λ e. absurd cc) no_low no_high in
      let stand = end_stands x.path x.chip x.e x.there x.is_end in
      record {
        path = x.path;
        chip = x.chip;
        there = x.there;
        its = ap (λ (o : Option End). block_at o (put.block x.path)) x.is_end ∙ its_block net (put.block x.path) x.e (put.at x.path) x.bit b stand x.below (ap (slice_get new.nodes.items) x.node ∙ here);
      }

  -- the first bit of the word of an end's block
  block_word : (b : ℕ) (x : IsEndBlock chips plan.entry.now put.block b) → slice_get new.nodes.items (put.at x.path (codes "out") 0) ≡ Some (nodes.Word b 0)
  block_word b x =
      let w = with_block (end_of chips.memories x.chip) (put.block x.path) b x.its in
      w.stands net (put.at x.path) (end_stands x.path x.chip w.e x.there w.is_end) ∙ ap (λ (n : ℕ). Some (nodes.Word n 0)) w.number

  block_bit : (b k : ℕ) (x : IsEndBlock chips plan.entry.now put.block b) → put.at x.path (codes "out") 0 ≡ k → IsEndBit chips plan.entry.now put.at k
  block_bit b k x same =
      let w = with_block (end_of chips.memories x.chip) (put.block x.path) b x.its in
      record { path = x.path; chip = x.chip; e = w.e; bit = 0; there = x.there; is_end = w.is_end; below = w.below; node = same }

  blocks_apart : (b : ℕ) (x y : IsEndBlock chips plan.entry.now put.block b) → x.path ≡ y.path
  unfolding block_bit
  blocks_apart b x y =
      let k = put.at x.path (codes "out") 0 in
      let same : put.at y.path (codes "out") 0 ≡ k = words_are.once (put.at y.path (codes "out") 0) k b 0 (block_word b y) (block_word b x) in
      (placed.alone k (block_bit b k x refl) (block_bit b k y same)).0

  pub whole : IsFlat chips plan.entry.now (record {
    nodes = new.nodes.items;
    blocks = new.blocks.items;
    pins = map (pin_at (own_nodes (wires_of plan.wires) (length old.nodes.items) inputs)) plan.entry.now.chip.inputs ++ map (pin_at (own_nodes (wires_of plan.wires) (length old.nodes.items) inputs)) plan.entry.now.chip.outputs;
    parts = new.parts;
  })
  whole =
      let pins_are = sym (map_both (pin_at (own_nodes (wires_of plan.wires) (length old.nodes.items) inputs)) plan.entry.now.chip.inputs plan.entry.now.chip.outputs) ∙ pins_same (own_nodes (wires_of plan.wires) (length old.nodes.items) inputs) (put.at []) placed.own (plan.entry.now.chip.inputs ++ plan.entry.now.chip.outputs) in
      record {
        tree = put.tree;
        listed = put.listed;
        count = count;
        low = 0;
        high = 1;
        at = put.at;
        block = put.block;
        numbering = record {
          low_stands = stands 0 nodes.Zero (first_low (length inputs));
          high_stands = stands 1 (nodes.Nand 0 0) (first_high (length inputs));
          wired = placed.wired;
        };
        read = record {
          node = λ k node e. each (Reads (length new.nodes.items) (length new.blocks.items)) new.nodes.items reads.nodes k node e;
          block = λ b block e. each (HasInputs (length new.nodes.items)) new.blocks.items reads.blocks b block e;
        };
        pins = pins_are;
        parts = put.parts ∙ ap (λ (l : List PartAt). l ++ map (part_at chips put.at put.block) put.tree) no_parts;
        pins_there = subst (λ (l : List PinAt). All (λ p. All (λ i. i < length new.nodes.items) p.nodes) l) (sym pins_are) (pins_below (put.at []) (length new.nodes.items) bit_below (plan.entry.now.chip.inputs ++ plan.entry.now.chip.outputs));
        parts_there = reads.parts;
        inputs = input_pin;
        apart = inputs_apart;
        ends = end_bits;
        alone = placed.alone;
        outside = inputs_outside;
        blocks_used = block_used;
        blocks_apart = blocks_apart;
        blocks_few = words_are.few;
      }

flat_same : (a b : Flat) → a.nodes ≡ b.nodes → a.blocks ≡ b.blocks → a.pins ≡ b.pins → a.parts ≡ b.parts → a ≡ b
flat_same a b e f g h =
    let one : a ≡ record { nodes = b.nodes; blocks = a.blocks; pins = a.pins; parts = a.parts } = ap (λ (l : List Node). record { nodes = l; blocks = a.blocks; pins = a.pins; parts = a.parts }) e in
    let two : record { nodes = b.nodes; blocks = a.blocks; pins = a.pins; parts = a.parts } ≡ record { nodes = b.nodes; blocks = b.blocks; pins = a.pins; parts = a.parts } = ap (λ (l : List Block). record { nodes = b.nodes; blocks = l; pins = a.pins; parts = a.parts }) f in
    let three : record { nodes = b.nodes; blocks = b.blocks; pins = a.pins; parts = a.parts } ≡ record { nodes = b.nodes; blocks = b.blocks; pins = b.pins; parts = a.parts } = ap (λ (l : List PinAt). record { nodes = b.nodes; blocks = b.blocks; pins = l; parts = a.parts }) g in
    let four : record { nodes = b.nodes; blocks = b.blocks; pins = b.pins; parts = a.parts } ≡ b = ap (λ (l : List PartAt). record { nodes = b.nodes; blocks = b.blocks; pins = b.pins; parts = l }) h in
    one ∙ two ∙ three ∙ four

pub flat_is : (chips : Chips) (name : List ℕ) (plans : List Plan) (place : ℕ) (plan : Plan) → Top chips name plans place plan → (inputs : List ℕ) (old new : Growing) → inputs ≡ from_two (length plan.inputs.items) → old.nodes.items ≡ constants ++ pins (length inputs) → old.blocks.items ≡ [] → old.parts ≡ [] →
    ((x : Plan) → slice_get plans place ≡ Some x → IsPut chips x inputs old new) → (base : ℕ) → base ≡ length old.nodes.items → (flat : Flat) → flat.nodes ≡ new.nodes.items → flat.blocks ≡ new.blocks.items → flat.parts ≡ new.parts →
    flat.pins ≡ map (pin_at (own_nodes (wires_of plan.wires) base inputs)) plan.entry.now.chip.inputs ++ map (pin_at (own_nodes (wires_of plan.wires) base inputs)) plan.entry.now.chip.outputs → IsFlat chips plan.entry.now flat
flat_is chips name plans place plan t inputs old new fed begun no_blocks no_parts put base base_is flat e f g h =
    let pins_are : flat.pins ≡ map (pin_at (own_nodes (wires_of plan.wires) (length old.nodes.items) inputs)) plan.entry.now.chip.inputs ++ map (pin_at (own_nodes (wires_of plan.wires) (length old.nodes.items) inputs)) plan.entry.now.chip.outputs =
    h ∙ ap (λ (n : ℕ). map (pin_at (own_nodes (wires_of plan.wires) n inputs)) plan.entry.now.chip.inputs ++ map (pin_at (own_nodes (wires_of plan.wires) n inputs)) plan.entry.now.chip.outputs) base_is in
    subst (λ (x : Flat). IsFlat chips plan.entry.now x) (flat_same _ flat (sym e) (sym f) (sym pins_are) (sym g)) (whole chips name plans place plan t inputs old new fed begun no_blocks no_parts (put plan t.there))

-- the premises, as the code has them
pub top_in : (seen chips : Chips) (name bytes : List ℕ) (nest : Nest) (ns : List Nested) (plans : List Plan) (plan : Plan) → seen ≡ chips → bytes ≡ name → ns ≡ nest.chips.items → IsNestOf seen bytes nest → ArePlans seen plans → FollowNest ns plans → length plans ≡ length ns → EndsHavePins chips → NeedsFew chips name → plan ≡ get_or plans nest.top plan → Top seen name plans nest.top plan
top_in seen chips name bytes nest ns plans plan same b n is are follow long ends few e =
    top_of seen name nest plans plan (subst (λ (x : List ℕ). IsNestOf seen x nest) b is) are (subst (λ (x : List Nested). FollowNest x plans) n follow) (long ∙ ap length n) (subst EndsHavePins (sym same) ends) (subst (λ (x : Chips). NeedsFew x name) (sym same) few) e

pub flat_in : (seen chips : Chips) (name : List ℕ) (plans : List Plan) (place : ℕ) (plan : Plan) (flat : Flat) → seen ≡ chips → Top seen name plans place plan → IsFlat seen plan.entry.now flat → (chip : Entry) → find_chip chips name ≡ Some chip → IsFlat chips chip flat
flat_in seen chips name plans place plan flat same t is chip found =
    let both : Some plan.entry.now ≡ Some chip = sym t.found ∙ ap (λ (x : Chips). find_chip x name) same ∙ found in
    let chip_is : plan.entry.now ≡ chip = cc in
    subst (λ (x : Entry). IsFlat chips x flat) chip_is (subst (λ (x : Chips). IsFlat x plan.entry.now flat) same is)
