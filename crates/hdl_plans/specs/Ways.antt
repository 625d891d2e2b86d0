-- Circles of bits, seen in one chip at a time: in a chip's own graph a part is known by which of its outputs depend on which of its inputs.
use Rattle.std.specs.Prelude.{◌≡◌, ℕ, ◌+◌, ◌<◌, Bool, true, false, List, [], ◌∷◌, Some, codes, slice_get}
use Rattle.hdl_tree.specs.declared.tree.Pin.{Pin}
use Rattle.hdl_tree.specs.declared.tree.Selection.{Selection}
use Rattle.hdl_tree.specs.declared.tree.Connection.{Connection}
use Rattle.hdl_tree.specs.declared.library.Entry.{Entry}
use Rattle.hdl_tree.specs.declared.ends.End.{End}
use Rattle.hdl_tree.specs.Chips.{Chips, end_of, first}
use Rattle.hdl_tree.specs.Behaviour.{chip_at, inner_chip, width_in}
use Rattle.hdl_check.specs.Locations.{IsFaultless}
use Rattle.hdl_plans.specs.Plans.{is_input}
use Rattle.hdl_plans.specs.Loops.{BitAt, bit_at, IsJoint, outside_bit, inside_bit, reaches_out, Feeds, IsWalk, IsBitCircle, IsLoop}

-- ---- ways

-- steps from one bit over others to a last one
abbrev pub Chain : (BitAt → BitAt → Type 0) → BitAt → List BitAt → BitAt → Type 0
Chain R x [] y = R x y
Chain R x (m ∷ ms) y = R x m × Chain R m ms y

-- one step or more from x to y
pub record Way (R : BitAt → BitAt → Type 0) (x y : BitAt) : Type 0 where
  pub over : List BitAt
  pub steps : Chain R x over y

-- one of the pins has this bit
pub record HasBit (pins : List Pin) (name : List ℕ) (bit : ℕ) : Type 0 where
  pub width : ℕ
  pub there : width_in pins name ≡ Some width
  pub below : bit < width

-- an output bit of a chip depends on an input bit within the cycle
pub record Depends (chips : Chips) (chip : Entry) (input : List ℕ) (bit : ℕ) (output : List ℕ) (out : ℕ) : Type 0 where
  pub from : HasBit chip.chip.inputs input bit
  pub to : HasBit chip.chip.outputs output out
  pub apart : is_input chip output ≡ false
  pub way : Way (Feeds chips chip) (bit_at [] input bit) (bit_at [] output out)

-- the pins of a part that are joined downwards, and upwards
abbrev pub pins_on : Bool → Entry → List Pin
pins_on true inner = inner.chip.inputs
pins_on false inner = inner.chip.outputs

-- what connections of the chip's parts join are bits of pins that the parts have
abbrev pub JointsFit : Chips → Entry → Type 0
JointsFit chips chip = (i : ℕ) (conn : Connection) (w : Selection) (k : ℕ) (input : Bool) (j : IsJoint chips chip [] i conn w k input) → HasBit (pins_on input j.inner) conn.pin.name (first conn.pin.subscript + k)

abbrev pub TreeFits : Chips → Entry → Type 0
TreeFits chips top = (path : List ℕ) (chip : Entry) → chip_at chips top path ≡ Some chip → JointsFit chips chip

-- a chip without faults is such a tree
abbrev pub FitLaw : Type 0
FitLaw = (chips : Chips) (names : List (List ℕ)) (top : Entry) → IsFaultless chips names top → TreeFits chips top

-- ---- the own graph of a chip

-- the chip is an end, and its pin reaches its out
pub record EndReaches (chips : Chips) (chip : Entry) (pin out : List ℕ) : Type 0 where
  pub e : End
  pub is : end_of chips.memories chip ≡ Some e
  pub reaches : reaches_out e pin ≡ true
  pub named : out ≡ codes "out"

-- a bit of the chip and a bit of a pin of part i are joined by a connection
pub record Joined (chips : Chips) (chip : Entry) (i : ℕ) (input : Bool) (outside inside : BitAt) : Type 0 where
  pub conn : Connection
  pub w : Selection
  pub k : ℕ
  pub joint : IsJoint chips chip [] i conn w k input
  pub out_is : outside ≡ outside_bit [] w k
  pub in_is : inside ≡ inside_bit [] i conn k

-- a bit of an output of part i depends on a bit of an input of it
pub record Across (chips : Chips) (chip : Entry) (i j : ℕ) (input : List ℕ) (bit : ℕ) (output : List ℕ) (out : ℕ) : Type 0 where
  pub same : i ≡ j
  pub inner : Entry
  pub found : inner_chip chips chip i ≡ Some inner
  pub depends : Depends chips inner input bit output out

-- a step between bits at these paths, of which only those of the chip itself and of the pins of its parts have one
abbrev pub OwnAt : Chips → Entry → List ℕ → List ℕ → List ℕ → ℕ → List ℕ → ℕ → Type 0
OwnAt chips chip [] [] n b m k = EndReaches chips chip n m
OwnAt chips chip [] (i ∷ []) n b m k = Joined chips chip i true (bit_at [] n b) (bit_at (i ∷ []) m k)
OwnAt chips chip [] (i ∷ j ∷ q) n b m k = ⊥
OwnAt chips chip (i ∷ []) [] n b m k = Joined chips chip i false (bit_at [] m k) (bit_at (i ∷ []) n b)
OwnAt chips chip (i ∷ []) (j ∷ []) n b m k = Across chips chip i j n b m k
OwnAt chips chip (i ∷ []) (j ∷ l ∷ q) n b m k = ⊥
OwnAt chips chip (i ∷ l ∷ p) q n b m k = ⊥

-- a step of the chip's own graph
abbrev pub Own : Chips → Entry → BitAt → BitAt → Type 0
Own chips chip x y = OwnAt chips chip x.path y.path x.name x.bit y.name y.bit

-- the own graph of a chip has a circle, which goes through a net or pin of the chip
pub record OwnCircle (chips : Chips) (chip : Entry) : Type 0 where
  pub name : List ℕ
  pub bit : ℕ
  pub way : Way (Own chips chip) (bit_at [] name bit) (bit_at [] name bit)

-- in a tree there is a chip whose own graph has a circle
pub record HasOwnCircle (chips : Chips) (top : Entry) : Type 0 where
  pub path : List ℕ
  pub chip : Entry
  pub at : chip_at chips top path ≡ Some chip
  pub circle : OwnCircle chips chip

pub record Circle (chips : Chips) (top : Entry) : Type 0 where
  pub bits : List BitAt
  pub is : IsBitCircle chips top bits

-- a circle, each bit of which is one of these
pub record CircleAmong (chips : Chips) (top : Entry) (bits : List BitAt) : Type 0 where
  pub circle : Circle chips top
  pub among : (k : ℕ) (x : BitAt) → slice_get circle.bits k ≡ Some x
      → (j : ℕ) × (slice_get bits j ≡ Some x)

-- There is a circle of bits in a tree exactly where the own graph of a chip in it has one.
pub record CircleLaw : Type 0 where
  -- a walk that comes back has a circle among its bits
  pub simple : (chips : Chips) (top : Entry) (bits : List BitAt) → IsWalk chips top bits
      → CircleAmong chips top bits
  pub found : (chips : Chips) (top : Entry) → TreeFits chips top → (bits : List BitAt)
      → IsWalk chips top bits → HasOwnCircle chips top
  pub real : (chips : Chips) (top : Entry) → HasOwnCircle chips top → Circle chips top
  -- an output depends on an input exactly where the chip's own graph has a way
  pub own : (chips : Chips) (chip : Entry) → JointsFit chips chip
      → (n m : List ℕ) (b k : ℕ) → Way (Feeds chips chip) (bit_at [] n b) (bit_at [] m k)
      → Way (Own chips chip) (bit_at [] n b) (bit_at [] m k)
  pub whole : (chips : Chips) (chip : Entry) (x y : BitAt) → Way (Own chips chip) x y
      → Way (Feeds chips chip) x y

-- ---- no circle

-- the bits of a chip's own graph are in order
pub record IsOrdered (chips : Chips) (chip : Entry) : Type 0 where
  pub rank : BitAt → ℕ
  pub rises : (x y : BitAt) → Own chips chip x y → rank x < rank y

-- Where the own graph of each chip of a tree is in order, the tree has no loop.
abbrev pub RankLaw : Type 0
RankLaw = (chips : Chips) (top : Entry) → TreeFits chips top → ((path : List ℕ) (chip : Entry) → chip_at chips top path ≡ Some chip → IsOrdered chips chip) → (nets : List (List ℕ)) → IsLoop chips top nets → ⊥
