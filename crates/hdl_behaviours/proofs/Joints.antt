-- What the plan of a text says of a bit is a connection of the text.
use Rattle.std.proofs.Common.{◌≡◌, ℕ, suc, ◌+◌, ◌-◌, ◌<◌, ◌⊎◌, inl, inr, Bool, true, false, cond, List, [], ◌∷◌, Option, Some, None, refl, sym, ap, subst, ◌∙◌, arith}
use Rattle.std.specs.Prelude.{slice_get, unwrap_or}
use Rattle.hdl_tree.specs.declared.tree.Selection.{Selection}
use Rattle.hdl_tree.specs.declared.tree.Source.{Source}
use Rattle.hdl_tree.specs.declared.tree.Source.TheVariants as source
use Rattle.hdl_tree.specs.declared.tree.Connection.{Connection}
use Rattle.hdl_tree.specs.declared.tree.Part.{Part}
use Rattle.hdl_tree.specs.declared.library.Entry.{Entry}
use Rattle.hdl_tree.specs.Chips.{Chips, find_chip, parts_of, first, count}
use Rattle.hdl_tree.specs.Behaviour.{width_of}
use Rattle.name_table.specs.Names.{find_value, first_of}
use Rattle.hdl_check.specs.Tables.{bits_of, is_in}
use Rattle.hdl_check.specs.Faults.{ports_of}
use Rattle.hdl_check.specs.declared.check.Port.{Port}
use Rattle.hdl_plans.specs.Plans.{Place, Origin, FromNet, Low, origin_of, is_input}
use Rattle.hdl_plans.specs.Planned.{output_from, output_by, output_among, output_in, output_of, origin_by, origin_among, origin_in, origin_at, plan_of}
use Rattle.hdl_plans.proofs.Sound.{port_is}
use Rattle.hdl_plans.proofs.Unjoined.{lies}

first_cases : {X : Type 0} (a b : Option X) (x : X) → first_of a b ≡ Some x → (a ≡ Some x) ⊎ (b ≡ Some x)
first_cases None b x e = inr e
first_cases (Some a) b x e = inl e

-- bit k of a connection of one of the parts, downwards or upwards: bit `outer` of a net `net`, and bit `bit` of the part's pin `pin`
pub record Joint (chips : Chips) (parts : List Part) (m : ℕ) (input : Bool) (net : List ℕ) (outer : ℕ) (pin : List ℕ) (bit : ℕ) : Type 0 where
  pub part : Part
  pub inner : Entry
  pub j : ℕ
  pub conn : Connection
  pub w : Selection
  pub k : ℕ
  pub there : slice_get parts m ≡ Some part
  pub found : find_chip chips part.chip ≡ Some inner
  pub here : slice_get part.connections j ≡ Some conn
  pub right : conn.source ≡ source.Net w
  pub way : is_input inner conn.pin.name ≡ input
  pub within : k < count conn.pin.subscript (width_of inner conn.pin.name)
  pub net_is : w.name ≡ net
  pub outer_is : first w.subscript + k ≡ outer
  pub pin_is : conn.pin.name ≡ pin
  pub bit_is : first conn.pin.subscript + k ≡ bit

-- one connection of a part of this chip
record OfConnection (inner : Entry) (conn : Connection) (input : Bool) (net : List ℕ) (outer : ℕ) (pin : List ℕ) (bit : ℕ) : Type 0 where
  w : Selection
  k : ℕ
  right : conn.source ≡ source.Net w
  way : is_input inner conn.pin.name ≡ input
  within : k < count conn.pin.subscript (width_of inner conn.pin.name)
  net_is : w.name ≡ net
  outer_is : first w.subscript + k ≡ outer
  pin_is : conn.pin.name ≡ pin
  bit_is : first conn.pin.subscript + k ≡ bit

record OfConnections (inner : Entry) (conns : List Connection) (input : Bool) (net : List ℕ) (outer : ℕ) (pin : List ℕ) (bit : ℕ) : Type 0 where
  j : ℕ
  conn : Connection
  here : slice_get conns j ≡ Some conn
  of : OfConnection inner conn input net outer pin bit

-- ---- drivers

record FromSource (conn : Connection) (i n : ℕ) (name : List ℕ) (bit : ℕ) (place : Place) : Type 0 where
  w : Selection
  k : ℕ
  right : conn.source ≡ source.Net w
  below : k < n
  net_is : w.name ≡ name
  outer_is : first w.subscript + k ≡ bit
  part_is : place.part ≡ i
  pin_is : conn.pin.name ≡ place.pin
  bit_is : first conn.pin.subscript + k ≡ place.bit

from_source : (i : ℕ) (name : List ℕ) (bit : ℕ) (conn : Connection) (n : ℕ) (place : Place) (s : Source) → conn.source ≡ s → output_from i name bit conn n s ≡ Some place → FromSource conn i n name bit place
from_source i name bit conn n place (source.Constant b) right e = absurd cc
from_source i name bit conn n place (source.Net w) right e = by (is_in name bit (bits_of w.name (first w.subscript) n)) refl e
  where
    by : (x : Bool) → is_in name bit (bits_of w.name (first w.subscript) n) ≡ x → cond {A = Option Place} x (Some (record { part = i; pin = conn.pin.name; bit = first conn.pin.subscript + (bit - first w.subscript) })) None ≡ Some place → FromSource conn i n name bit place
    by false f g = absurd cc
    by true f g =
        let l = lies w.name (first w.subscript) n name bit f in
        let low = l.low in
        let high = l.high in
        let same : record { part = i; pin = conn.pin.name; bit = first conn.pin.subscript + (bit - first w.subscript) } ≡ place = cc in
        record {
          w = w;
          k = bit - first w.subscript;
          right = right;
          below = omega arith;
          net_is = sym l.named;
          outer_is = omega arith;
          part_is = ap (λ (x : Place). x.part) (sym same);
          pin_is = ap (λ (x : Place). x.pin) same;
          bit_is = ap (λ (x : Place). x.bit) same;
        }

from_port : (inner : Entry) (i : ℕ) (name : List ℕ) (bit : ℕ) (conn : Connection) (place : Place) (o : Option Port) → find_value conn.pin.name (ports_of inner.chip) ≡ o → output_by i name bit conn o ≡ Some place → (place.part ≡ i) × OfConnection inner conn false name bit place.pin place.bit
from_port inner i name bit conn place None f e = absurd cc
from_port inner i name bit conn place (Some port) f e = by port.input refl e
  where
    by : (x : Bool) → port.input ≡ x → cond {A = Option Place} x None (output_from i name bit conn (count conn.pin.subscript port.width) conn.source) ≡ Some place → (place.part ≡ i) × OfConnection inner conn false name bit place.pin place.bit
    by true g h = absurd cc
    by false g h =
        let r = from_source i name bit conn (count conn.pin.subscript port.width) place conn.source refl h in
        let p = port_is inner conn.pin.name port f in (
          r.part_is,
          record {
            w = r.w;
            k = r.k;
            right = r.right;
            way = sym p.way ∙ g;
            within = subst (λ v. r.k < count conn.pin.subscript v) p.wide r.below;
            net_is = r.net_is;
            outer_is = r.outer_is;
            pin_is = r.pin_is;
            bit_is = r.bit_is;
          },
        )

from_connections : (inner : Entry) (i : ℕ) (name : List ℕ) (bit : ℕ) (conns : List Connection) (place : Place) → output_among i name bit (ports_of inner.chip) conns ≡ Some place → (place.part ≡ i) × OfConnections inner conns false name bit place.pin place.bit
from_connections inner i name bit [] place e = absurd cc
from_connections inner i name bit (conn ∷ conns) place e = by (first_cases (output_by i name bit conn (find_value conn.pin.name (ports_of inner.chip))) (output_among i name bit (ports_of inner.chip) conns) place e) (λ h. from_connections inner i name bit conns place h)
  where
    by : (output_by i name bit conn (find_value conn.pin.name (ports_of inner.chip)) ≡ Some place) ⊎ (output_among i name bit (ports_of inner.chip) conns ≡ Some place) → (output_among i name bit (ports_of inner.chip) conns ≡ Some place → (place.part ≡ i) × OfConnections inner conns false name bit place.pin place.bit) → (place.part ≡ i) × OfConnections inner (conn ∷ conns) false name bit place.pin place.bit
    by (inl h) go = let r = from_port inner i name bit conn place (find_value conn.pin.name (ports_of inner.chip)) refl h in (r.0, record { j = 0; conn = conn; here = refl; of = r.1 })
    by (inr h) go = let r = go h in (r.0, record { j = suc r.1.j; conn = r.1.conn; here = r.1.here; of = r.1.of })

-- a joint of part m
joint_at : (chips : Chips) (parts : List Part) (m : ℕ) (part : Part) (inner : Entry) (input : Bool) (net : List ℕ) (outer : ℕ) (pin : List ℕ) (bit : ℕ) → slice_get parts m ≡ Some part → find_chip chips part.chip ≡ Some inner → OfConnections inner part.connections input net outer pin bit → Joint chips parts m input net outer pin bit
joint_at chips parts m part inner input net outer pin bit there f r = record {
  part = part;
  inner = inner;
  j = r.j;
  conn = r.conn;
  w = r.of.w;
  k = r.of.k;
  there = there;
  found = f;
  here = r.here;
  right = r.of.right;
  way = r.of.way;
  within = r.of.within;
  net_is = r.of.net_is;
  outer_is = r.of.outer_is;
  pin_is = r.of.pin_is;
  bit_is = r.of.bit_is;
}

record FromParts (chips : Chips) (parts : List Part) (i : ℕ) (name : List ℕ) (bit : ℕ) (place : Place) : Type 0 where
  m : ℕ
  part_is : place.part ≡ i + m
  joint : Joint chips parts m false name bit place.pin place.bit

from_part : (chips : Chips) (i : ℕ) (name : List ℕ) (bit : ℕ) (part : Part) (parts : List Part) (place : Place) (o : Option Entry) → find_chip chips part.chip ≡ o → output_in i name bit part.connections o ≡ Some place → FromParts chips (part ∷ parts) i name bit place
from_part chips i name bit part parts place None f e = absurd cc
from_part chips i name bit part parts place (Some inner) f e =
    let r = from_connections inner i name bit part.connections place e in
    let p = r.0 in
    record { m = 0; part_is = omega arith; joint = joint_at chips (part ∷ parts) 0 part inner false name bit place.pin place.bit refl f r.1 }

later_joint : (chips : Chips) (part : Part) (parts : List Part) (m : ℕ) (input : Bool) (net : List ℕ) (outer : ℕ) (pin : List ℕ) (bit : ℕ) → Joint chips parts m input net outer pin bit → Joint chips (part ∷ parts) (suc m) input net outer pin bit
later_joint chips part parts m input net outer pin bit j = record { part = j.part; inner = j.inner; j = j.j; conn = j.conn; w = j.w; k = j.k; there = j.there; found = j.found; here = j.here; right = j.right; way = j.way; within = j.within; net_is = j.net_is; outer_is = j.outer_is; pin_is = j.pin_is; bit_is = j.bit_is }

from_parts : (chips : Chips) (i : ℕ) (name : List ℕ) (bit : ℕ) (parts : List Part) (place : Place) → output_of chips i name bit parts ≡ Some place → FromParts chips parts i name bit place
from_parts chips i name bit [] place e = absurd cc
from_parts chips i name bit (part ∷ parts) place e = by (first_cases (output_in i name bit part.connections (find_chip chips part.chip)) (output_of chips (suc i) name bit parts) place e) (λ h. from_parts chips (suc i) name bit parts place h)
  where
    by : (output_in i name bit part.connections (find_chip chips part.chip) ≡ Some place) ⊎ (output_of chips (suc i) name bit parts ≡ Some place) → (output_of chips (suc i) name bit parts ≡ Some place → FromParts chips parts (suc i) name bit place) → FromParts chips (part ∷ parts) i name bit place
    by (inl h) go = from_part chips i name bit part parts place (find_chip chips part.chip) refl h
    by (inr h) go =
        let r = go h in
        let p = r.part_is in
        record { m = suc r.m; part_is = omega arith; joint = later_joint chips part parts r.m false name bit place.pin place.bit r.joint }

pub driver_joint : (chips : Chips) (chip : Entry) (name : List ℕ) (bit : ℕ) (place : Place) → (plan_of chips chip).driver name bit ≡ Some place → Joint chips (parts_of chips chip) place.part false name bit place.pin place.bit
driver_joint chips chip name bit place e =
    let r = from_parts chips 0 name bit (parts_of chips chip) place e in
    let p = r.part_is in
    let same : r.m ≡ place.part = omega arith in
    subst (λ m. Joint chips (parts_of chips chip) m false name bit place.pin place.bit) same r.joint

-- ---- origins

origin_source : (s : Source) (k : ℕ) (net : List ℕ) (outer : ℕ) → origin_of s k ≡ FromNet net outer → (w : Selection) × (s ≡ source.Net w) × (w.name ≡ net) × (first w.subscript + k ≡ outer)
origin_source (source.Net w) k net outer e = (w, refl, cc, cc)
origin_source (source.Constant true) k net outer e = absurd cc
origin_source (source.Constant false) k net outer e = absurd cc

origin_port : (inner : Entry) (name : List ℕ) (bit : ℕ) (conn : Connection) (net : List ℕ) (outer : ℕ) (o : Option Port) → find_value conn.pin.name (ports_of inner.chip) ≡ o → origin_by name bit conn o ≡ Some (FromNet net outer) → OfConnection inner conn true net outer name bit
origin_port inner name bit conn net outer None f e = absurd cc
origin_port inner name bit conn net outer (Some port) f e = by port.input (is_in name bit (bits_of conn.pin.name (first conn.pin.subscript) (count conn.pin.subscript port.width))) refl refl e
  where
    by : (x y : Bool) → port.input ≡ x → is_in name bit (bits_of conn.pin.name (first conn.pin.subscript) (count conn.pin.subscript port.width)) ≡ y → cond {A = Option Origin} x (cond y (Some (origin_of conn.source (bit - first conn.pin.subscript))) None) None ≡ Some (FromNet net outer) → OfConnection inner conn true net outer name bit
    by false y g h k = absurd cc
    by true false g h k = absurd cc
    by true true g h k =
        let l = lies conn.pin.name (first conn.pin.subscript) (count conn.pin.subscript port.width) name bit h in
        let low = l.low in
        let high = l.high in
        let same : origin_of conn.source (bit - first conn.pin.subscript) ≡ FromNet net outer = cc in
        let s = origin_source conn.source (bit - first conn.pin.subscript) net outer same in
        let p = port_is inner conn.pin.name port f in
        let below : bit - first conn.pin.subscript < count conn.pin.subscript port.width = omega arith in
        record {
          w = s.0;
          k = bit - first conn.pin.subscript;
          right = s.1;
          way = sym p.way ∙ g;
          within = subst (λ v. bit - first conn.pin.subscript < count conn.pin.subscript v) p.wide below;
          net_is = s.2;
          outer_is = s.3;
          pin_is = sym l.named;
          bit_is = omega arith;
        }

origin_connections : (inner : Entry) (name : List ℕ) (bit : ℕ) (conns : List Connection) (net : List ℕ) (outer : ℕ) → origin_among name bit (ports_of inner.chip) conns ≡ Some (FromNet net outer) → OfConnections inner conns true net outer name bit
origin_connections inner name bit [] net outer e = absurd cc
origin_connections inner name bit (conn ∷ conns) net outer e = by (first_cases (origin_by name bit conn (find_value conn.pin.name (ports_of inner.chip))) (origin_among name bit (ports_of inner.chip) conns) (FromNet net outer) e) (λ h. origin_connections inner name bit conns net outer h)
  where
    by : (origin_by name bit conn (find_value conn.pin.name (ports_of inner.chip)) ≡ Some (FromNet net outer)) ⊎ (origin_among name bit (ports_of inner.chip) conns ≡ Some (FromNet net outer)) → (origin_among name bit (ports_of inner.chip) conns ≡ Some (FromNet net outer) → OfConnections inner conns true net outer name bit) → OfConnections inner (conn ∷ conns) true net outer name bit
    by (inl h) go = record { j = 0; conn = conn; here = refl; of = origin_port inner name bit conn net outer (find_value conn.pin.name (ports_of inner.chip)) refl h }
    by (inr h) go = let r = go h in record { j = suc r.j; conn = r.conn; here = r.here; of = r.of }

not_low : (o : Option Origin) (net : List ℕ) (outer : ℕ) → unwrap_or o Low ≡ FromNet net outer → o ≡ Some (FromNet net outer)
not_low None net outer e = absurd cc
not_low (Some x) net outer e = ap (λ (y : Origin). Some y) e

origin_part : (chips : Chips) (parts : List Part) (i : ℕ) (name : List ℕ) (bit : ℕ) (net : List ℕ) (outer : ℕ) (part : Part) (o : Option Entry) → slice_get parts i ≡ Some part → find_chip chips part.chip ≡ o → origin_in name bit part.connections o ≡ Some (FromNet net outer) → Joint chips parts i true net outer name bit
origin_part chips parts i name bit net outer part None there f e = absurd cc
origin_part chips parts i name bit net outer part (Some inner) there f e = joint_at chips parts i part inner true net outer name bit there f (origin_connections inner name bit part.connections net outer e)

origin_parts : (chips : Chips) (parts : List Part) (i : ℕ) (name : List ℕ) (bit : ℕ) (net : List ℕ) (outer : ℕ) (o : Option Part) → slice_get parts i ≡ o → origin_at chips name bit o ≡ Some (FromNet net outer) → Joint chips parts i true net outer name bit
origin_parts chips parts i name bit net outer None there e = absurd cc
origin_parts chips parts i name bit net outer (Some part) there e = origin_part chips parts i name bit net outer part (find_chip chips part.chip) there refl e

pub origin_joint : (chips : Chips) (chip : Entry) (i : ℕ) (name : List ℕ) (bit : ℕ) (net : List ℕ) (outer : ℕ) → (plan_of chips chip).origin i name bit ≡ FromNet net outer → Joint chips (parts_of chips chip) i true net outer name bit
origin_joint chips chip i name bit net outer e = origin_parts chips (parts_of chips chip) i name bit net outer (slice_get (parts_of chips chip) i) refl (not_low (origin_at chips name bit (slice_get (parts_of chips chip) i)) net outer e)
