-- What the connections of a part join.
use Rattle.std.specs.Prelude.{◌≡◌, ℕ, zero, suc, ◌+◌, ◌⊎◌, Bool, true, false, List, [], ◌∷◌, ◌++◌, map}
use Rattle.hdl_tree.specs.declared.tree.Selection.{Selection}
use Rattle.hdl_tree.specs.declared.tree.Source.{Source}
use Rattle.hdl_tree.specs.declared.tree.Source.TheVariants as source
use Rattle.hdl_tree.specs.declared.tree.Connection.{Connection}
use Rattle.hdl_tree.specs.declared.library.Entry.{Entry}
use Rattle.hdl_tree.specs.Chips.{first, count}
use Rattle.hdl_tree.specs.Behaviour.{width_of}
use Rattle.hdl_plans.specs.Plans.{is_input}
use Rattle.hdl_plans.specs.Loops.{BitAt, bit_at}
use Rattle.hdl_loops.specs.Inner.Hops.{bit}
use Rattle.hdl_loops.specs.Inner.Leaving.{IsLinked}
use Rattle.hdl_loops.specs.declared.pins.Sides.{Sides}
use Rattle.hdl_loops.specs.declared.hops.BitOf.{BitOf}
use Rattle.hdl_loops.specs.declared.joint.Joint.{Joint}

-- a bit of a net or pin, and the bit of a pin of a part that it is joined to, an input or none
pub record Tie : Type 0 where
  pub input : Bool
  pub net : BitAt
  pub pin : BitAt

abbrev pub tie_of : Joint → Tie
tie_of j = record { input = j.input; net = bit j.net; pin = bit j.pin }

abbrev pub ties_of : List Joint → List Tie
ties_of js = map tie_of js

-- the bits of pins of joints
abbrev pub pins_of : List Joint → List BitOf
pins_of js = map (λ (j : Joint). j.pin) js

-- bit k of a connection
abbrev pub tie : Selection → Selection → Bool → ℕ → Tie
tie pin net input k = record { input = input; net = bit_at [] net.name (first net.subscript + k); pin = bit_at [] pin.name (first pin.subscript + k) }

-- the first n bits of a connection
abbrev pub ties_below : Selection → Selection → Bool → ℕ → List Tie
ties_below pin net input zero = []
ties_below pin net input (suc k) = ties_below pin net input k ++ tie pin net input k ∷ []

abbrev pub ties_by : Entry → Selection → Source → List Tie
ties_by inner pin (source.Net w) = ties_below pin w (is_input inner pin.name) (count pin.subscript (width_of inner pin.name))
ties_by inner pin (source.Constant b) = []

-- what a connection of a part of this chip joins
abbrev pub ties_in : Entry → Connection → List Tie
ties_in inner conn = ties_by inner conn.pin conn.source

-- the list has the item
abbrev pub In : {A : Type 0} → A → List A → Type 0
In x [] = ⊥
In x (y ∷ ys) = (y ≡ x) ⊎ In x ys

-- what f gives for each item, one after another
abbrev pub gather : {A B : Type 0} → (A → List B) → List A → List B
gather f [] = []
gather f (x ∷ xs) = f x ++ gather f xs

-- the same for the first n items
abbrev pub gather_first : {A B : Type 0} → (A → List B) → ℕ → List A → List B
gather_first f zero xs = []
gather_first f (suc n) [] = []
gather_first f (suc n) (x ∷ xs) = f x ++ gather_first f n xs

-- ---- the sides of a part

-- these are the joints that go in, or those that go out
pub record AreOn (joints side : List Joint) (input : Bool) : Type 0 where
  pub only : (j : Joint) → In j side → In j joints × (j.input ≡ input)
  pub all : (j : Joint) → In j joints → j.input ≡ input → In j side

pub record AreSides (joints : List Joint) (sides : Sides) : Type 0 where
  pub enters : AreOn joints sides.enters.items true
  pub leaves : AreOn joints sides.leaves.items false
  pub enters_at : IsLinked (pins_of sides.enters.items) sides.enters_at
  pub leaves_at : IsLinked (pins_of sides.leaves.items) sides.leaves_at

abbrev pub HasSides : Sides → Type 0
HasSides sides = (joints : List Joint) × AreSides joints sides
