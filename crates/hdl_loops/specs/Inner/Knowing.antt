-- What is known of chips.
use Rattle.std.specs.Prelude.{◌≡◌, ℕ, zero, suc, ◌&&◌, ◌⊎◌, Bool, true, false, not, List, [], ◌∷◌, map, Option, Some, None, slice_get, codes, if◌then◌else◌}
use Rattle.std.specs.Str.{bytes_eq}
use Rattle.hdl_tree.specs.declared.tree.Part.{Part}
use Rattle.hdl_tree.specs.declared.library.Entry.{Entry}
use Rattle.hdl_tree.specs.declared.ends.End.{End}
use Rattle.hdl_tree.specs.Chips.{Chips, end_of, find_chip, parts_of}
use Rattle.hdl_tree.specs.Behaviour.{chip_at, inner_chip}
use Rattle.name_table.specs.Tables.{Finds}
use Rattle.hdl_check.specs.Inner.Progress.{numbered_entries, ArePorts}
use Rattle.hdl_plans.specs.Loops.{BitAt, bit_at, reaches_out}
use Rattle.hdl_plans.specs.Ways.{Way, Depends, Joined, OwnCircle, JointsFit, TreeFits}
use Rattle.hdl_loops.specs.Inner.Hops.{bit, input_of, output_of, HasHop, AllIn, IsDirect, IsWay}
use Rattle.hdl_loops.specs.Inner.Ties.{In, Tie, tie_of, ties_in, gather}
use Rattle.hdl_loops.specs.Inner.Report.{HasConnection}
use Rattle.hdl_loops.specs.Inner.Leaving.{latest_from, IsLinked}
use Rattle.hdl_loops.specs.Inner.Bundles.{hops_in, AreDoors}
use Rattle.hdl_loops.specs.Inner.Pairs.{has_pair}
use Rattle.hdl_loops.specs.declared.hops.BitOf.{BitOf}
use Rattle.hdl_loops.specs.declared.hops.Hop.{Hop}
use Rattle.hdl_loops.specs.declared.joint.Joint.{Joint}
use Rattle.hdl_loops.specs.declared.pins.Sides.{Sides}
use Rattle.hdl_loops.specs.declared.graph.By.{By}
use Rattle.hdl_loops.specs.declared.graph.By.TheVariants as ways
use Rattle.hdl_loops.specs.declared.known.Known.{Known}
use Rattle.hdl_loops.specs.declared.pairs.Pair.{Pair}
use Rattle.hdl_loops.specs.declared.places.Places.{Places}

-- the hops of what is known
abbrev pub hops_of : Known → List Hop
hops_of inside = hops_in inside.graph.items

-- ---- which bits of a chip lead to which

abbrev pub leads : Known → BitAt → BitAt → Bool
leads inside x y = if inside.turned then has_pair inside.pairs.keys y x else has_pair inside.pairs.keys x y

abbrev pub leads_in : Option (Option Known) → BitAt → BitAt → Bool
leads_in None x y = false
leads_in (Some None) x y = false
leads_in (Some (Some inside)) x y = leads inside x y

abbrev pub end_crosses : End → BitAt → BitAt → Bool
end_crosses e x y = reaches_out e x.name && bytes_eq y.name (codes "out")

abbrev pub crosses_by : Option End → Option (Option Known) → BitAt → BitAt → Bool
crosses_by (Some e) known x y = end_crosses e x y
crosses_by None known x y = leads_in known x y

abbrev pub crosses_in : Chips → Option Entry → Option (Option Known) → BitAt → BitAt → Bool
crosses_in chips None known x y = false
crosses_in chips (Some entry) known x y = crosses_by (end_of chips.memories entry) known x y

-- the output bit of chip k depends on the input bit, as far as is known
abbrev pub crosses : Chips → List (Option Known) → ℕ → BitAt → BitAt → Bool
crosses chips known k x y = crosses_in chips (slice_get chips.entries k) (slice_get known k) x y

-- ---- the own graph of a chip

-- a hop, apart from where its names lie
pub record Leap : Type 0 where
  pub from : BitAt
  pub chip : ℕ
  pub input : BitAt
  pub output : BitAt
  pub to : BitAt

abbrev pub leap_of : Hop → Leap
leap_of h = record { from = bit h.from; chip = h.chip; input = input_of h.through; output = output_of h.through; to = bit h.to }

abbrev pub leaps_of : List Hop → List Leap
leaps_of hs = map leap_of hs

-- a way goes in by one joint and out by another, through the part's chip
abbrev pub leads_through : Chips → List (Option Known) → ℕ → Tie → Tie → Bool
leads_through chips known k a b = a.input && (not b.input && crosses chips known k a.pin b.pin)

abbrev pub leap_if : Bool → ℕ → Tie → Tie → List Leap
leap_if t k a b = if t then record { from = a.net; chip = k; input = a.pin; output = b.pin; to = b.net } ∷ [] else []

-- the hop that does so, if there is such a way
abbrev pub leap_by : Chips → List (Option Known) → ℕ → Tie → Tie → List Leap
leap_by chips known k a b = leap_if (leads_through chips known k a b) k a b

-- the hops that go in by this joint, and out by one of these
abbrev pub leaps_from : Chips → List (Option Known) → ℕ → List Tie → Tie → List Leap
leaps_from chips known k ties a = gather (leap_by chips known k a) ties

-- the hops that go in by one of the joints, and out by one of the others
abbrev pub leaps_between : Chips → List (Option Known) → ℕ → List Tie → List Tie → List Leap
leaps_between chips known k enters leaves = gather (leaps_from chips known k leaves) enters

-- the hops through a part with these joints
abbrev pub leaps_through : Chips → List (Option Known) → ℕ → List Tie → List Leap
leaps_through chips known k ties = leaps_between chips known k ties ties

-- none but these hops are added
pub record AddsOnly (old new : List Hop) (leaps : List Leap) : Type 0 where
  pub kept : (leap : Leap) → In leap (leaps_of old) → In leap (leaps_of new)
  pub only : (leap : Leap) → In leap (leaps_of new) → (In leap (leaps_of old)) ⊎ (In leap leaps)

-- and these are all there
pub record AddsLeaps (old new : List Hop) (leaps : List Leap) : Type 0 where
  pub right : AddsOnly old new leaps
  pub there : (leap : Leap) → In leap leaps → In leap (leaps_of new)

-- ---- the joints that lead to one that goes out

-- a way leads in by one joint and out by another
abbrev pub Leads : Chips → List (Option Known) → ℕ → Joint → Joint → Type 0
Leads chips known k a b = leads_through chips known k (tie_of a) (tie_of b) ≡ true

-- those of some joints are added from which a way leads out by this one
pub record AddsEnters (chips : Chips) (known : List (Option Known)) (k : ℕ) (some : List Joint) (b : Joint) (old new : List Joint) : Type 0 where
  pub kept : (a : Joint) → In a old → In a new
  pub only : (a : Joint) → In a new → (In a old) ⊎ (In a some × Leads chips known k a b)
  pub all : (a : Joint) → In a some → Leads chips known k a b → In a new

-- these are those of all joints
pub record AreEnters (chips : Chips) (known : List (Option Known)) (k : ℕ) (joints : List Joint) (b : Joint) (enters : List Joint) : Type 0 where
  pub only : (a : Joint) → In a enters → In a joints × Leads chips known k a b
  pub all : (a : Joint) → In a joints → Leads chips known k a b → In a enters

-- where place k is the last of its bit among the joints that go out, all hops out by joints of the bit are there
abbrev pub BundlesLast : Chips → List (Option Known) → ℕ → Sides → List Hop → ℕ → Type 0
BundlesLast chips known place sides hs k = (a b c : Joint) (leap : Leap) → slice_get sides.leaves.items k ≡ Some c → latest_from sides.leaves_at (bit c.pin) ≡ Some k → In a sides.enters.items → In b sides.leaves.items → bit b.pin ≡ bit c.pin → In leap (leap_by chips known place (tie_of a) (tie_of b)) → In leap (leaps_of hs)

-- the pair of an input bit and an output bit
abbrev pub through_pair : Bool → Pair → Pair
through_pair turned p = if turned then record { from = p.to; to = p.from } else p

-- what is known of chip k is this, and it is no end
pub record KnownAs (chips : Chips) (known : List (Option Known)) (k : ℕ) (inside : Known) : Type 0 where
  pub noted : slice_get known k ≡ Some (Some inside)
  pub no_end : (chip : Entry) → slice_get chips.entries k ≡ Some chip
      → end_of chips.memories chip ≡ None

-- the output bits of its pairs
abbrev pub outputs_of : Known → List BitOf
outputs_of inside = map (λ (p : Pair). (through_pair inside.turned p).to) inside.pairs.keys

-- by the pairs of chip k, linked by their output bits, or by a look at all joints
abbrev pub IsBy : Chips → List (Option Known) → ℕ → By → Type 0
IsBy chips known k (ways.Pairs inside outputs) = KnownAs chips known k inside.now × IsLinked (outputs_of inside.now) outputs
IsBy chips known k ways.Joints = Unit {0}

abbrev pub next_place : Option ℕ → Option ℕ
next_place None = None
next_place (Some k) = Some (suc k)

-- the place of the chip of this name
abbrev pub place_of : List Entry → List ℕ → Option ℕ
place_of [] name = None
place_of (e ∷ es) name = if bytes_eq name e.name then Some 0 else next_place (place_of es name)

-- the tables find the chips in their places, and the pins of each
pub record ArePlaces (places : Places) (entries : List Entry) : Type 0 where
  pub named : Finds places.names (numbered_entries 0 entries)
  pub pins : ArePorts entries places.pins.items

abbrev pub ties_for : Option Entry → Part → List Tie
ties_for None part = []
ties_for (Some inner) part = gather (ties_in inner) part.connections

abbrev pub leaps_at : Chips → List (Option Known) → Part → Option ℕ → List Leap
leaps_at chips known part None = []
leaps_at chips known part (Some k) = leaps_through chips known k (ties_for (slice_get chips.entries k) part)

-- the hops through a part, if there is its chip
abbrev pub part_leaps : Chips → List (Option Known) → Part → List Leap
part_leaps chips known part = leaps_at chips known part (place_of chips.entries part.chip)

-- the list has these hops, and no others
pub record AreLeaps (hs : List Hop) (leaps : List Leap) : Type 0 where
  pub only : (leap : Leap) → In leap (leaps_of hs) → In leap leaps
  pub there : (leap : Leap) → In leap leaps → In leap (leaps_of hs)

-- these are the hops of a chip's own graph
abbrev pub IsGraph : Chips → List (Option Known) → Entry → List Hop → Type 0
IsGraph chips known chip hs = AreLeaps hs (gather (part_leaps chips known) (parts_of chips chip))

-- a hop of a chip's own graph
pub record IsHop (chips : Chips) (known : List (Option Known)) (chip : Entry) (h : Hop) : Type 0 where
  pub i : ℕ
  pub part : Part
  pub inner : Entry
  pub there : slice_get (parts_of chips chip) i ≡ Some part
  pub found : find_chip chips part.chip ≡ Some inner
  pub place : slice_get chips.entries h.chip ≡ Some inner
  pub goes_in : HasConnection inner part true h.from.name.now h.from.bit h.through.input.now
      h.through.bit
  pub goes_out : HasConnection inner part false h.to.name.now h.to.bit h.through.output.now
      h.through.out
  pub crosses_it : crosses chips known h.chip (input_of h.through) (output_of h.through) ≡ true

abbrev pub AreHops : Chips → List (Option Known) → Entry → List Hop → Type 0
AreHops chips known chip hs = (p : ℕ) (h : Hop) → slice_get hs p ≡ Some h → IsHop chips known chip h

-- a part leads from a bit of the chip to another by hops of the list, wherever its output depends on its input
abbrev pub IsFull : Chips → Entry → List Hop → Type 0
IsFull chips chip hs = (i : ℕ) (inner : Entry) (x p q y : BitAt) → inner_chip chips chip i ≡ Some inner → Joined chips chip i true x p → Joined chips chip i false y q → Depends chips inner p.name p.bit q.name q.bit → HasHop hs x y

-- hops of the chip, of which none cuts a way of these short
pub record IsStraight (chips : Chips) (chip : Entry) (ws : List Hop) : Type 0 where
  pub all : List Hop
  pub full : IsFull chips chip all
  pub inside : AllIn all ws
  pub direct : IsDirect all ws

-- ---- what is known

-- the own graph of no chip of a tree has a circle
abbrev pub TreeClear : Chips → Entry → Type 0
TreeClear chips top = (path : List ℕ) (chip : Entry) → chip_at chips top path ≡ Some chip → OwnCircle chips chip → ⊥

-- what is known of a chip that is no end
pub record IsRight (chips : Chips) (known : List (Option Known)) (chip : Entry) (inside : Known) : Type 0 where
  pub hops : AreHops chips known chip (hops_of inside)
  pub linked : AreDoors inside.graph.items inside.doors
  pub sound : (n m : List ℕ) (b k : ℕ) → leads inside (bit_at [] n b) (bit_at [] m k) ≡ true
      → Way (HasHop (hops_of inside)) (bit_at [] n b) (bit_at [] m k)
  pub covers : TreeFits chips chip → (n m : List ℕ) (b k : ℕ) → Depends chips chip n b m k
      → leads inside (bit_at [] n b) (bit_at [] m k) ≡ true
  pub clear : TreeFits chips chip → TreeClear chips chip
  pub full : TreeFits chips chip → IsFull chips chip (hops_of inside)

abbrev pub AreKnown : Chips → List (Option Known) → Type 0
AreKnown chips known = (k : ℕ) (chip : Entry) (inside : Known) → slice_get chips.entries k ≡ Some chip → slice_get known k ≡ Some (Some inside) → IsRight chips known chip inside

abbrev pub IsKnown : List (Option Known) → ℕ → Type 0
IsKnown known k = (inside : Known) × (slice_get known k ≡ Some (Some inside))

abbrev pub KnowNothing : List (Option Known) → Type 0
KnowNothing known = (k : ℕ) (inside : Known) → slice_get known k ≡ Some (Some inside) → ⊥

-- what is known stays so
abbrev pub StaysKnown : List (Option Known) → List (Option Known) → Type 0
StaysKnown old new = (k : ℕ) (inside : Known) → slice_get old k ≡ Some (Some inside) → slice_get new k ≡ Some (Some inside)

-- the chip in this place is known, or is an end
abbrev pub IsDone : Chips → List (Option Known) → ℕ → Type 0
IsDone chips known k = (chip : Entry) → slice_get chips.entries k ≡ Some chip → end_of chips.memories chip ≡ None → IsKnown known k

-- and so is the chip of a part
abbrev pub PartDone : Chips → List (Option Known) → Part → Type 0
PartDone chips known part = (k : ℕ) → place_of chips.entries part.chip ≡ Some k → IsDone chips known k

-- and those of all parts
abbrev pub PartsDone : Chips → List (Option Known) → Entry → Type 0
PartsDone chips known chip = (i : ℕ) (part : Part) (k : ℕ) → slice_get (parts_of chips chip) i ≡ Some part → place_of chips.entries part.chip ≡ Some k → IsDone chips known k

-- chip k is noted, and what was known stays
pub record Notes (old new : List (Option Known)) (k : ℕ) (inside : Known) : Type 0 where
  pub stays : StaysKnown old new
  pub noted : IsKnown new k
  pub only : (j : ℕ) (other : Known) → slice_get new j ≡ Some (Some other)
      → slice_get old j ≡ Some (Some other) ⊎ ((j ≡ k) × (other ≡ inside))

-- ---- depth

-- parts nest less deep than this, and connections join bits of pins that the parts have
abbrev pub Nests : ℕ → Chips → Entry → Type 0
Nests zero chips chip = ⊥
Nests (suc d) chips chip = JointsFit chips chip × ((i : ℕ) (inner : Entry) → inner_chip chips chip i ≡ Some inner → Nests d chips inner)

abbrev pub NestsAt : ℕ → Chips → ℕ → Type 0
NestsAt d chips k = (chip : Entry) → slice_get chips.entries k ≡ Some chip → Nests d chips chip

-- ---- ways through chips

-- ways are found in what is known of the chip in this place
abbrev pub HasWays : List (Option Known) → ℕ → Type 0
HasWays known k = (inside : Known) → slice_get known k ≡ Some (Some inside) → AreDoors inside.graph.items inside.doors ×
    ((n m : List ℕ) (b l : ℕ) → leads inside (bit_at [] n b) (bit_at [] m l) ≡ true → Way (HasHop (hops_of inside)) (bit_at [] n b) (bit_at [] m l))

-- hops of what is known, which are a way between these bits
abbrev pub IsWayIn : Option (Option Known) → BitAt → List Hop → BitAt → Type 0
IsWayIn None x ws y = ⊥
IsWayIn (Some None) x ws y = ⊥
IsWayIn (Some (Some inside)) x ws y = IsWay (hops_of inside) x ws y
