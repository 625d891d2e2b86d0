-- The view of a state of the virtual machine, and the places of a linked program's image.
use Rattle.std.specs.Prelude.{◌≡◌, ◌<◌, ◌≤◌, ◌+◌, ◌-◌, ℕ, false, nat_eq, if◌then◌else◌, List, [], ◌∷◌, map, length, Option, Some, None, option_map, slice_get, slice_index}
use Rattle.outer_world.specs.declared.point.Point.{Point}
use Rattle.jack_tree.specs.declared.tree.Form.{Form}
use Rattle.jack_tree.specs.declared.tree.Form.TheVariants.{Constructor, Function, Method}
use Rattle.vm_link.specs.declared.linked.Code.{Code}
use Rattle.vm_link.specs.declared.linked.Linked.{Linked}
use Rattle.vm_link.specs.declared.linked.LinkedFunction.{LinkedFunction}
use Rattle.vm_machine.specs.State.{Frame, State}
use Rattle.vm_machine.specs.Step.{code_in}
use Rattle.vm_machine.specs.Level.{point_of}
use Rattle.vm_translator.specs.Places.{address_of}
use Rattle.vm_translator.specs.Image.{points_of}
use Rattle.image_map.specs.Map as image
use Rattle.jack_debug.specs.declared.places.Places.{Places}
use Rattle.jack_debug.specs.declared.places.PlacedStatic.{PlacedStatic}
use Rattle.jack_debug.specs.declared.places.SubPlaces.{SubPlaces}
use Rattle.jack_debug.specs.declared.seen.Caller.{Caller}
use Rattle.jack_debug.specs.declared.seen.View.{View}
use Rattle.jack_debug.specs.Walk.{point_in, sub_at, name_of, first_named, variables_from, statics_of}

-- The places of a subroutine are those of a function of the image: its entry code is its first command.
pub record IsSubOf (l : Linked) (places : Places) (k number : ℕ) : Type 0 where
  pub sub : SubPlaces
  pub there : sub_at places number ≡ Some sub
  pub from : sub.from ≡ address_of l k 0
  pub to : sub.to ≡ address_of l k 1

-- The places are those of the image of a linked program: an address has a point in them just where it has one in the image. `index` leads from
-- the numbers that the program gives its subroutines to those of the places.
pub record IsPlacesOf (l : Linked) (places : Places) (index : ℕ → ℕ) : Type 0 where
  pub start : index 0 ≡ 0
  pub ranges : (a : ℕ) → point_in places.ranges a
      ≡ option_map (λ (p : Point). record { sub = index p.sub; number = p.number })
      (image.point_in (points_of l) a)
  pub subs : (k : ℕ) (f : LinkedFunction) → slice_get l.functions k ≡ Some f
      → IsSubOf l places k (index f.number)

-- each of these frames has a next command
abbrev pub HaveCommands : Linked → List Frame → Type 0
HaveCommands l [] = Unit {0}
HaveCommands l (f ∷ below) = ((c : Code) × (slice_get (code_in l f.function) f.place ≡ Some c)) × HaveCommands l below

module _ (l : Linked) (places : Places) (index : ℕ → ℕ) where
  -- the control point of frames, by the places' numbers
  abbrev pub point_at : List Frame → Point
  point_at fs = let p = point_of l fs in record { sub = index p.sub; number = p.number }

  abbrev pub caller_at : List Frame → Caller
  caller_at fs = record { sub = name_of (sub_at places (point_at fs).sub) (point_at fs).sub; number = (point_at fs).number }

  abbrev pub callers_at : List Frame → List Caller
  callers_at [] = []
  callers_at (f ∷ below) = caller_at (f ∷ below) ∷ callers_at below

  -- a method's object is its first argument; a constructor has none until its statement 0 is done
  abbrev pub this_at : Form → ℕ → Frame → Option ℕ
  this_at Method number f = Some (slice_index f.arguments 0)
  this_at Constructor number f = Some (if nat_eq number 0 then 0 else f.this)
  this_at Function number f = None

  abbrev pub static_at : State → Option ℕ → ℕ
  static_at v None = 0
  static_at v (Some a) = slice_index v.statics (a - 16)

  -- the view of the state whose frames are f and those below it, where f is that of a call of this subroutine
  abbrev pub view_at : SubPlaces → State → Frame → List Frame → View
  view_at sub v f below = record {
    point = point_at (f ∷ below);
    this = this_at sub.form (point_at (f ∷ below)).number f;
    arguments = variables_from (λ k. slice_index f.arguments k) (first_named sub.form) sub.arguments;
    locals = variables_from (λ k. if nat_eq f.place 0 then 0 else slice_index f.locals k) 0 sub.locals;
    statics = map (λ s. record { name = s.name; word = static_at v s.address }) (statics_of (slice_get places.classes sub.class));
    callers = callers_at below;
    lost = false;
  }

-- A subroutine's places fit a frame: it has this many arguments, a method one at least, and this many locals once they are
-- made.
pub record FitsFrame (sub : SubPlaces) (f : Frame) : Type 0 where
  pub arguments : first_named sub.form + length sub.arguments ≤ length f.arguments
  pub locals : 0 < f.place → length sub.locals ≤ length f.locals

-- the statics of a class have static words, or none
abbrev pub AreStatics : List PlacedStatic → Type 0
AreStatics ss = (i : ℕ) (s : PlacedStatic) (a : ℕ) → slice_get ss i ≡ Some s → s.address ≡ Some a → (16 ≤ a) × (a < 256)
