-- Circles of bits within a cycle: loops, and their nets. (The book, chapter 3 and appendix 2.)
use Rattle.std.specs.Prelude.{◌≡◌, ℕ, suc, ◌+◌, ◌<◌, Bool, true, false, List, [], ◌∷◌, ◌++◌, Option, Some, length, slice_get, nat_eq, nat_lt, codes, if◌then◌else◌}
use Rattle.std.specs.Str.{bytes_eq}
use Rattle.hdl_tree.specs.declared.tree.Selection.{Selection}
use Rattle.hdl_tree.specs.declared.tree.Source.TheVariants as source
use Rattle.hdl_tree.specs.declared.tree.Connection.{Connection}
use Rattle.hdl_tree.specs.declared.tree.Part.{Part}
use Rattle.hdl_tree.specs.declared.library.Entry.{Entry}
use Rattle.hdl_tree.specs.declared.ends.End.{End}
use Rattle.hdl_tree.specs.declared.ends.End.TheVariants as ends
use Rattle.hdl_tree.specs.Writable.{is_among}
use Rattle.hdl_tree.specs.Chips.{Chips, end_of, find_chip, parts_of, first, count}
use Rattle.hdl_tree.specs.Behaviour.{chip_at, width_of}
use Rattle.hdl_plans.specs.Plans.{is_input}

-- a bit of a pin or net of the chip at a path of part numbers
pub record BitAt : Type 0 where
  pub path : List ℕ
  pub name : List ℕ
  pub bit : ℕ

abbrev pub bit_at : List ℕ → List ℕ → ℕ → BitAt
bit_at path name bit = record { path = path; name = name; bit = bit }

-- bit k of a connection of part i of the chip at the path, to a net or pin w
pub record IsJoint (chips : Chips) (top : Entry) (path : List ℕ) (i : ℕ) (conn : Connection) (w : Selection) (k : ℕ) (input : Bool) : Type 0 where
  pub chip : Entry
  pub part : Part
  pub inner : Entry
  pub j : ℕ
  pub at : chip_at chips top path ≡ Some chip
  pub there : slice_get (parts_of chips chip) i ≡ Some part
  pub found : find_chip chips part.chip ≡ Some inner
  pub here : slice_get part.connections j ≡ Some conn
  pub right : conn.source ≡ source.Net w
  pub way : is_input inner conn.pin.name ≡ input
  pub within : k < count conn.pin.subscript (width_of inner conn.pin.name)

abbrev pub outside_bit : List ℕ → Selection → ℕ → BitAt
outside_bit path w k = bit_at path w.name (first w.subscript + k)

abbrev pub inside_bit : List ℕ → ℕ → Connection → ℕ → BitAt
inside_bit path i conn k = bit_at (path ++ i ∷ []) conn.pin.name (first conn.pin.subscript + k)

-- the pin of an end reaches its out within the cycle: no flip-flop, and no `in` or `load` of a block
abbrev pub reaches_out : End → List ℕ → Bool
reaches_out ends.Nand name = if bytes_eq name (codes "a") then true else bytes_eq name (codes "b")
reaches_out ends.Dff name = false
reaches_out ends.Keyboard name = false
reaches_out ends.Rom name = bytes_eq name (codes "address")
reaches_out (ends.Block bits) name = bytes_eq name (codes "address")

-- Within a cycle one bit feeds another. A net or pin feeds the input of a part, the output of a part a net or pin, and the pin of an
-- end its out.
pub data Feeds (chips : Chips) (top : Entry) : BitAt → BitAt → Type 0 where
  down : {path : List ℕ} {i k : ℕ} {conn : Connection} {w : Selection} → IsJoint chips top path i conn w k true → Feeds chips top (outside_bit path w k) (inside_bit path i conn k)
  up : {path : List ℕ} {i k : ℕ} {conn : Connection} {w : Selection} → IsJoint chips top path i conn w k false → Feeds chips top (inside_bit path i conn k) (outside_bit path w k)
  through : {path : List ℕ} {name : List ℕ} {bit out : ℕ} {chip : Entry} {e : End} → chip_at chips top path ≡ Some chip → end_of chips.memories chip ≡ Some e → reaches_out e name ≡ true → Feeds chips top (bit_at path name bit) (bit_at path (codes "out") out)

-- the bit that follows, round the circle
abbrev pub next_bit : List BitAt → ℕ → Option BitAt
next_bit bits k = if nat_eq (suc k) (length bits) then slice_get bits 0 else slice_get bits (suc k)

-- a walk of bits that comes back: each feeds the one that follows
pub record IsWalk (chips : Chips) (top : Entry) (bits : List BitAt) : Type 0 where
  pub some : 0 < length bits
  pub feeds : (k : ℕ) (x y : BitAt) → slice_get bits k ≡ Some x → next_bit bits k ≡ Some y
      → Feeds chips top x y

-- no bit stands in two places
abbrev pub AreDistinctBits : List BitAt → Type 0
AreDistinctBits bits = (i j : ℕ) (x : BitAt) → slice_get bits i ≡ Some x → slice_get bits j ≡ Some x → i ≡ j

-- a circle: a walk that comes back and passes no bit twice
pub record IsBitCircle (chips : Chips) (top : Entry) (bits : List BitAt) : Type 0 where
  pub walk : IsWalk chips top bits
  pub once : AreDistinctBits bits

-- A bit of a circle is outermost where the bits before and after it lie in parts of its chip: there the way goes up no further.
abbrev pub is_peak : BitAt → BitAt → BitAt → Bool
is_peak before bit behind = if nat_lt (length bit.path) (length before.path) then nat_lt (length bit.path) (length behind.path) else false

-- the names of the outermost bits; before is the bit before the first
abbrev pub peaks : BitAt → List BitAt → BitAt → List (List ℕ)
peaks before [] last = []
peaks before (x ∷ []) last = if is_peak before x last then x.name ∷ [] else []
peaks before (x ∷ y ∷ ys) last = if is_peak before x y then x.name ∷ peaks x (y ∷ ys) last else peaks x (y ∷ ys) last

-- each name once, where it stands first
abbrev pub once_more : List (List ℕ) → List (List ℕ) → List (List ℕ)
once_more seen [] = []
once_more seen (x ∷ xs) = if is_among x seen then once_more seen xs else x ∷ once_more (x ∷ seen) xs

-- These are the nets of a loop: those of one circle, in its order. Each is named as in the outermost chip that has a name for it. A name
-- stands once, also where the circle passes several bits of a net, or nets of one name in several chips.
pub record IsLoop (chips : Chips) (top : Entry) (nets : List (List ℕ)) : Type 0 where
  pub first : BitAt
  pub rest : List BitAt
  pub last : BitAt
  pub ends : slice_get (first ∷ rest) (length rest) ≡ Some last
  pub circle : IsBitCircle chips top (first ∷ rest)
  pub named : nets ≡ once_more [] (peaks last (first ∷ rest) first)
