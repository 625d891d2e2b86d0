-- Ways whose nets are reported.
use Rattle.std.specs.Prelude.{◌≡◌, ℕ, ◌+◌, ◌<◌, Bool, true, List, [], ◌∷◌, ◌++◌, ◌||◌, ◌&&◌, map, Some, nat_eq, slice_get, if◌then◌else◌}
use Rattle.std.specs.Str.{bytes_eq}
use Rattle.std.specs.List.{list_any}
use Rattle.hdl_tree.specs.declared.tree.Selection.{Selection}
use Rattle.hdl_tree.specs.declared.tree.Source.TheVariants as source
use Rattle.hdl_tree.specs.declared.tree.Connection.{Connection}
use Rattle.hdl_tree.specs.declared.tree.Part.{Part}
use Rattle.hdl_tree.specs.declared.library.Entry.{Entry}
use Rattle.hdl_tree.specs.Writable.{is_among}
use Rattle.hdl_tree.specs.Chips.{Chips, first, count}
use Rattle.hdl_tree.specs.Behaviour.{width_of}
use Rattle.hdl_plans.specs.Plans.{is_input}
use Rattle.hdl_plans.specs.Loops.{BitAt, bit_at, AreDistinctBits, Feeds, peaks}
use Rattle.hdl_plans.specs.Ways.{Chain}
use Rattle.hdl_loops.specs.declared.report.Passage.{Passage}
use Rattle.hdl_loops.specs.declared.report.Report.{Report}

-- ---- connections

-- a connection to a part of this chip joins a bit of a net to a bit of a pin, an input or none
pub record Connects (inner : Entry) (conn : Connection) (input : Bool) (net : List ℕ) (b : ℕ) (pin : List ℕ) (k : ℕ) : Type 0 where
  pub w : Selection
  pub n : ℕ
  pub right : conn.source ≡ source.Net w
  pub way : is_input inner conn.pin.name ≡ input
  pub within : n < count conn.pin.subscript (width_of inner conn.pin.name)
  pub net_is : w.name ≡ net
  pub b_is : b ≡ first w.subscript + n
  pub pin_is : conn.pin.name ≡ pin
  pub k_is : k ≡ first conn.pin.subscript + n

pub record HasConnection (inner : Entry) (part : Part) (input : Bool) (net : List ℕ) (b : ℕ) (pin : List ℕ) (k : ℕ) : Type 0 where
  pub j : ℕ
  pub conn : Connection
  pub here : slice_get part.connections j ≡ Some conn
  pub joins : Connects inner conn input net b pin k

-- ---- ways with their nets

-- a way of bits that passes none twice, whose outermost bits between its ends have these names
pub record Trip (chips : Chips) (chip : Entry) (x y : BitAt) (names : List (List ℕ)) : Type 0 where
  pub over : List BitAt
  pub steps : Chain (Feeds chips chip) x over y
  pub named : peaks x over y ≡ names
  pub once : AreDistinctBits (x ∷ over)
  pub ends : (x ≡ y → ⊥) → (k : ℕ) → slice_get over k ≡ Some y → ⊥

-- ---- what is reported

-- one name more, unless it is there
abbrev pub add_name : List (List ℕ) → List ℕ → List (List ℕ)
add_name told x = if is_among x told then told else told ++ x ∷ []

abbrev pub add_names : List (List ℕ) → List (List ℕ) → List (List ℕ)
add_names told [] = told
add_names told (x ∷ xs) = add_names (add_name told x) xs

abbrev pub AllAmong : List (List ℕ) → List (List ℕ) → Type 0
AllAmong [] told = Unit {0}
AllAmong (x ∷ xs) told = (is_among x told ≡ true) × AllAmong xs told

abbrev pub names_of : Report → List (List ℕ)
names_of told = map (λ name. name.now) told.names.keys

abbrev pub is_passage : ℕ → List ℕ → ℕ → List ℕ → ℕ → Passage → Bool
is_passage chip n b m k p = nat_eq chip p.chip && (bytes_eq n p.through.input.now && (nat_eq b p.through.bit && (bytes_eq m p.through.output.now && nat_eq k p.through.out)))

abbrev pub was_passed : Report → ℕ → List ℕ → ℕ → List ℕ → ℕ → Bool
was_passed told chip n b m k = list_any (is_passage chip n b m k) told.passed.keys

-- no other way than this is noted beside those that were
abbrev pub NotesOne : Report → Report → Passage → Type 0
NotesOne old new p = (chip : ℕ) (n : List ℕ) (b : ℕ) (m : List ℕ) (k : ℕ) → was_passed new chip n b m k ≡ true → (was_passed old chip n b m k || is_passage chip n b m k p) ≡ true

-- there is a way through the chip, all of whose nets are among these
abbrev pub TripAmong : Chips → Entry → List ℕ → ℕ → List ℕ → ℕ → List (List ℕ) → Type 0
TripAmong chips chip n b m k told = (names : List (List ℕ)) × (Trip chips chip (bit_at [] n b) (bit_at [] m k) names) × AllAmong names told

-- each way that is noted is a way, and its nets are reported
abbrev pub AreTold : Chips → Report → Type 0
AreTold chips told = (place : ℕ) (n : List ℕ) (b : ℕ) (m : List ℕ) (k : ℕ) → was_passed told place n b m k ≡ true → (chip : Entry) → slice_get chips.entries place ≡ Some chip → TripAmong chips chip n b m k (names_of told)
