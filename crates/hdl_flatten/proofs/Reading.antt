-- The nodes that the input bits of a part are, as the text joins them.
use Rattle.std.proofs.Common.{◌≡◌, ℕ, zero, suc, ◌+◌, ◌<◌, Bool, true, false, cond, ◌&&◌, ◌||◌, nat_eq, List, [], ◌∷◌, map, Option, Some, None, refl, sym, ap, ◌∙◌, arith}
use Rattle.std.specs.Str.{bytes_eq}
use Rattle.std.specs.Prelude.{slice_get, slice_index, unwrap_or}
use Rattle.std.specs.Cmp.Lexicographic.{bytes_decides}
use Rattle.std.proofs.lemmas.Bool.Decides.{Decides-eqb}
use Rattle.hdl_tree.specs.declared.tree.Pin.{Pin}
use Rattle.hdl_tree.specs.declared.tree.Source.{Source}
use Rattle.hdl_tree.specs.declared.tree.Source.TheVariants as source
use Rattle.hdl_tree.specs.Chips.{pin_width}
use Rattle.hdl_tree.specs.Behaviour.{Wires, width_in, source_value}
use Rattle.hdl_check.specs.Tables.{BitOf, bits_of, is_in}
use Rattle.hdl_check.proofs.MarkLemmas.{both, is_in-append}
use Rattle.hdl_plans.specs.Plans.{Origin, Low, origin_of}
use Rattle.hdl_plans.proofs.Planned.{bit_there}
use Rattle.hdl_flatten.specs.declared.wires.Origin.{Origin as Fed}
use Rattle.hdl_flatten.specs.declared.wires.Origin.TheVariants as fed
use Rattle.hdl_flatten.specs.Trees.{all_bits}
use Rattle.hdl_flatten.specs.Inner.Wired.{found_bit, origin_at, origins_at}
use Rattle.hdl_flatten.specs.Inner.Plans.{numbered_bits}
use Rattle.hdl_flatten.proofs.Bridges.{resolved, resolved_if}

-- ---- bits by number

pub record IsNumbered (f : ℕ → Fed) (from : ℕ) (bits : List BitOf) (name : List ℕ) (bit : ℕ) : Type 0 where
  pub k : ℕ
  pub found : found_bit name bit (numbered_bits f from bits) ≡ Some (f (from + k))
  pub at : BitOf
  pub there : slice_get bits k ≡ Some at
  pub name_is : name ≡ at.name
  pub bit_is : bit ≡ at.bit

number_by : (f : ℕ → Fed) (from : ℕ) (b : BitOf) (bs : List BitOf) (name : List ℕ) (bit : ℕ) (t : Bool) → (bytes_eq name b.name && nat_eq bit b.bit) ≡ t → (t || is_in name bit bs) ≡ true → (is_in name bit bs ≡ true → IsNumbered f (suc from) bs name bit) → IsNumbered f from (b ∷ bs) name bit
number_by f from b bs name bit true e h go =
    let p = both (bytes_eq name b.name) (nat_eq bit b.bit) e in
    let at : from ≡ from + 0 = omega arith in
    record {
      k = 0;
      found = ap (λ (t : Bool). cond t (Some (f from)) (found_bit name bit (numbered_bits f (suc from) bs))) e ∙ ap (λ (n : ℕ). Some (f n)) at;
      at = b;
      there = refl;
      name_is = (bytes_decides name b.name).0 p.0;
      bit_is = (Decides-eqb bit b.bit).0 p.1;
    }
number_by f from b bs name bit false e h go =
    let r : IsNumbered f (suc from) bs name bit = go h in
    let at : suc from + r.k ≡ from + suc r.k = omega arith in
    record {
      k = suc r.k;
      found = ap (λ (t : Bool). cond t (Some (f from)) (found_bit name bit (numbered_bits f (suc from) bs))) e ∙ r.found ∙ ap (λ (n : ℕ). Some (f n)) at;
      at = r.at;
      there = r.there;
      name_is = r.name_is;
      bit_is = r.bit_is;
    }

pub number_of : (f : ℕ → Fed) (from : ℕ) (bits : List BitOf) (name : List ℕ) (bit : ℕ) → is_in name bit bits ≡ true → IsNumbered f from bits name bit
number_of f from [] name bit h = absurd cc
number_of f from (b ∷ bs) name bit h = number_by f from b bs name bit (bytes_eq name b.name && nat_eq bit b.bit) refl h (number_of f (suc from) bs name bit)

none_by : (f : ℕ → Fed) (from : ℕ) (b : BitOf) (bs : List BitOf) (name : List ℕ) (bit : ℕ) (t : Bool) → (t || is_in name bit bs) ≡ false → (is_in name bit bs ≡ false → found_bit name bit (numbered_bits f (suc from) bs) ≡ None) → cond t (Some (f from)) (found_bit name bit (numbered_bits f (suc from) bs)) ≡ None
none_by f from b bs name bit true h go = absurd cc
none_by f from b bs name bit false h go = go h

pub no_number : (f : ℕ → Fed) (from : ℕ) (bits : List BitOf) (name : List ℕ) (bit : ℕ) → is_in name bit bits ≡ false → found_bit name bit (numbered_bits f from bits) ≡ None
no_number f from [] name bit h = refl
no_number f from (b ∷ bs) name bit h = none_by f from b bs name bit (bytes_eq name b.name && nat_eq bit b.bit) h (no_number f (suc from) bs name bit)

-- ---- the bits of pins

pub or_true : (a b : Bool) → b ≡ true → (a || b) ≡ true
or_true true b h = refl
or_true false b h = h

pub or_left : (a b : Bool) → a ≡ true → (a || b) ≡ true
or_left true b h = refl
or_left false b h = absurd cc

or_none : (a b : Bool) → a ≡ false → b ≡ false → (a || b) ≡ false
or_none true b h k = absurd cc
or_none false b h k = k

has_by : (p : Pin) (ps : List Pin) (name : List ℕ) (width bit : ℕ) (t : Bool) → bytes_eq name p.name ≡ t → cond t (Some (pin_width p)) (width_in ps name) ≡ Some width → bit < width → (width_in ps name ≡ Some width → is_in name bit (all_bits ps) ≡ true) → (is_in name bit (bits_of p.name 0 (pin_width p)) || is_in name bit (all_bits ps)) ≡ true
has_by p ps name width bit true e h lt go =
    let same : name ≡ p.name = (bytes_decides name p.name).0 e in
    let wide : pin_width p ≡ width = cc in
    let inside : bit < pin_width p = omega arith in
    let zero_plus : 0 + bit ≡ bit = omega arith in
    or_left (is_in name bit (bits_of p.name 0 (pin_width p))) (is_in name bit (all_bits ps))
    (ap (λ (n : List ℕ). is_in n bit (bits_of p.name 0 (pin_width p))) same ∙ ap (λ (m : ℕ). is_in p.name m (bits_of p.name 0 (pin_width p))) (sym zero_plus) ∙ bit_there p.name 0 bit (pin_width p) inside)
has_by p ps name width bit false e h lt go = or_true (is_in name bit (bits_of p.name 0 (pin_width p))) (is_in name bit (all_bits ps)) (go h)

pub has_bit : (pins : List Pin) (name : List ℕ) (width bit : ℕ) → width_in pins name ≡ Some width → bit < width → is_in name bit (all_bits pins) ≡ true
has_bit [] name width bit h lt = absurd cc
has_bit (p ∷ ps) name width bit h lt =
    is_in-append name bit (bits_of p.name 0 (pin_width p)) (all_bits ps) ∙ has_by p ps name width bit (bytes_eq name p.name) refl h lt (λ k. has_bit ps name width bit k lt)

other_bits : (name other : List ℕ) (bit from n : ℕ) → bytes_eq name other ≡ false → is_in name bit (bits_of other from n) ≡ false
other_bits name other bit from zero h = refl
other_bits name other bit from (suc n) h =
    is_in-append name bit (bits_of other from n) (record { name = other; bit = from + n } ∷ [])
    ∙ or_none (is_in name bit (bits_of other from n)) ((bytes_eq name other && nat_eq bit (from + n)) || false) (other_bits name other bit from n h) (ap (λ (t : Bool). (t && nat_eq bit (from + n)) || false) h)

not_by : (p : Pin) (ps : List Pin) (name : List ℕ) (bit : ℕ) (t : Bool) → bytes_eq name p.name ≡ t → cond t (Some (pin_width p)) (width_in ps name) ≡ None → (width_in ps name ≡ None → is_in name bit (all_bits ps) ≡ false) → (is_in name bit (bits_of p.name 0 (pin_width p)) || is_in name bit (all_bits ps)) ≡ false
not_by p ps name bit true e h go = absurd cc
not_by p ps name bit false e h go = or_none (is_in name bit (bits_of p.name 0 (pin_width p))) (is_in name bit (all_bits ps)) (other_bits name p.name bit 0 (pin_width p) e) (go h)

pub no_bit : (pins : List Pin) (name : List ℕ) (bit : ℕ) → width_in pins name ≡ None → is_in name bit (all_bits pins) ≡ false
no_bit [] name bit h = refl
no_bit (p ∷ ps) name bit h = is_in-append name bit (bits_of p.name 0 (pin_width p)) (all_bits ps) ∙ not_by p ps name bit (bytes_eq name p.name) refl h (no_bit ps name bit)

-- ---- nodes

-- the node of a bit of a chip whose nodes begin at base, and whose input bits are these nodes
abbrev pub node_at : Fed → ℕ → List ℕ → ℕ
node_at fed.Low base inputs = 0
node_at fed.High base inputs = 1
node_at (fed.Input k) base inputs = slice_index inputs k
node_at (fed.Gate k) base inputs = base + k

abbrev pub own_nodes : List (BitOf × Fed) → ℕ → List ℕ → Wires ℕ
own_nodes wires base inputs name bit = node_at (origin_at wires name bit) base inputs

pub source_nodes : (wires : List (BitOf × Fed)) (base : ℕ) (inputs : List ℕ) (s : Source) (k : ℕ) → node_at (resolved wires (origin_of s k)) base inputs ≡ source_value 0 1 s (own_nodes wires base inputs) k
source_nodes wires base inputs (source.Net w) k = refl
source_nodes wires base inputs (source.Constant true) k = refl
source_nodes wires base inputs (source.Constant false) k = refl

pub resolved_or : (wires : List (BitOf × Fed)) (o : Option Origin) → unwrap_or (resolved_if wires o) fed.Low ≡ resolved wires (unwrap_or o Low)
resolved_or wires None = refl
resolved_or wires (Some o) = refl

-- the node of input bit k of a part
pub index_of : (es : List (BitOf × Fed)) (base : ℕ) (inputs : List ℕ) (bits : List BitOf) (k : ℕ) (b : BitOf) → slice_get bits k ≡ Some b → slice_index (map (λ o. node_at o base inputs) (origins_at es bits)) k ≡ own_nodes es base inputs b.name b.bit
index_of es base inputs [] k b h = absurd cc
index_of es base inputs (x ∷ bits) zero b h = let same : x ≡ b = cc in ap (λ (y : BitOf). own_nodes es base inputs y.name y.bit) same
index_of es base inputs (x ∷ bits) (suc k) b h = index_of es base inputs bits k b h
