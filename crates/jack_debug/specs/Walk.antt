-- What the words of a computer's memory say of the call that it is in: the variables there, and where its callers go on. It is
-- said of any words, also where a program has overwritten its stack. (The book, chapters 7 and 8: the stack frame.)
use Rattle.std.specs.Prelude.{◌≡◌, ◌<◌, ◌≤◌, ◌+◌, ◌-◌, ◌&&◌, ℕ, zero, suc, Bool, true, false, nat_le, nat_lt, nat_eq, if◌then◌else◌, List, [], ◌∷◌, map, codes, Option, Some, None, slice_get}
use Rattle.jack_tree.specs.declared.tree.Form.{Form}
use Rattle.jack_tree.specs.declared.tree.Form.TheVariants.{Constructor, Function, Method}
use Rattle.outer_world.specs.declared.point.Point.{Point}
use Rattle.jack_debug.specs.declared.places.PlacedRange.{PlacedRange}
use Rattle.jack_debug.specs.declared.places.PlacedStatic.{PlacedStatic}
use Rattle.jack_debug.specs.declared.places.SubPlaces.{SubPlaces}
use Rattle.jack_debug.specs.declared.places.ClassPlaces.{ClassPlaces}
use Rattle.jack_debug.specs.declared.places.Places.{Places}
use Rattle.jack_debug.specs.declared.seen.Caller.{Caller}
use Rattle.jack_debug.specs.declared.seen.Variable.{Variable}
use Rattle.jack_debug.specs.declared.seen.View.{View}

-- an address is from one up to and without another
abbrev pub is_in : ℕ → ℕ → ℕ → Bool
is_in from to a = nat_le from a && nat_lt a to

-- the point of the range that an address is in
abbrev pub point_in : List PlacedRange → ℕ → Option Point
point_in [] a = None
point_in (r ∷ rs) a = if is_in r.from r.to a then Some r.point else point_in rs a

-- the subroutine of a number; `start`, which is 0, has no variables
abbrev pub sub_at : Places → ℕ → Option SubPlaces
sub_at places zero = None
sub_at places (suc k) = slice_get places.subs k

abbrev pub name_of : Option SubPlaces → ℕ → List ℕ
name_of (Some sub) k = sub.name
name_of None zero = codes "start"
name_of None (suc k) = []

-- a word, and 0 past the last address that has one
abbrev pub word_at : (ℕ → ℕ) → ℕ → ℕ
word_at words a = if nat_lt a 24576 then words a else 0

-- names with the values that their indices have
abbrev pub variables_from : (ℕ → ℕ) → ℕ → List (List ℕ) → List Variable
variables_from value k [] = []
variables_from value k (name ∷ names) = record { name = name; word = value k } ∷ variables_from value (k + 1) names

-- a method's first argument is its object, which has no name
abbrev pub first_named : Form → ℕ
first_named Constructor = 0
first_named Function = 0
first_named Method = 1

-- statics with their words; one without a word is 0
abbrev pub static_word : (ℕ → ℕ) → Option ℕ → ℕ
static_word words None = 0
static_word words (Some a) = word_at words a

abbrev pub static_variable : (ℕ → ℕ) → PlacedStatic → Variable
static_variable words s = record { name = s.name; word = static_word words s.address }

abbrev pub statics_of : Option ClassPlaces → List PlacedStatic
statics_of None = []
statics_of (Some class) = class.statics

-- The locals of a frame may begin at L, where those of the frame above it begin at `above`. The stack begins at 256 and ends at 2047, and five
-- saved words stand before the locals of each frame.
pub record IsFrame (above l : ℕ) : Type 0 where
  pub from : 261 ≤ l
  pub to : l ≤ 2047
  pub below : l + 5 ≤ above

-- `this`: a method's first argument; a constructor has none until its statement 0 is done
abbrev pub this_of : (ℕ → ℕ) → Form → ℕ → Option ℕ
this_of words Method number = Some (word_at words (words 2))
this_of words Constructor number = Some (if nat_eq number 0 then 0 else words 3)
this_of words Function number = None

module _ (places : Places) (words : ℕ → ℕ) where
  abbrev pub caller_of : Point → Caller
  caller_of p = record { sub = name_of (sub_at places p.sub) p.sub; number = p.number }

  -- The callers of the frame whose locals begin at L, the innermost first. A call saves five words before the locals: the first is the return
  -- address, where its caller goes on, and the second is the L of its caller. The walk ends at `start`; or where L can begin no frame, or the
  -- return address has no point, and then its last part is `true`.
  pub data Callers : ℕ → ℕ → List Caller → Bool → Type 0 where
    no_frame : (above l : ℕ) → (IsFrame above l → ⊥) → Callers above l [] true
    no_point : (above l : ℕ) → IsFrame above l → point_in places.ranges (words (l - 5)) ≡ None → Callers above l [] true
    to_start : (above l : ℕ) (p : Point) → IsFrame above l → point_in places.ranges (words (l - 5)) ≡ Some p → p.sub ≡ 0 → Callers above l (caller_of p ∷ []) false
    called : (above l : ℕ) (p : Point) (cs : List Caller) (b : Bool) → IsFrame above l → point_in places.ranges (words (l - 5)) ≡ Some p → 0 < p.sub
        → Callers l (words (l - 4)) cs b → Callers above l (caller_of p ∷ cs) b

  -- The variables of a subroutine's call. While the entry code makes them, the locals are 0.
  pub record ShowsCall (sub : SubPlaces) (pc : ℕ) (v : View) : Type 0 where
    pub this : v.this ≡ this_of words sub.form v.point.number
    pub arguments : v.arguments ≡ variables_from (λ k. word_at words (words 2 + k)) (first_named sub.form) sub.arguments
    pub locals : v.locals ≡ variables_from (λ k. if is_in sub.from sub.to pc then 0 else word_at words (words 1 + k)) 0 sub.locals
    pub statics : v.statics ≡ map (static_variable words) (statics_of (slice_get places.classes sub.class))
    pub callers : Callers 2052 (words 1) v.callers v.lost

  -- `start` has no variables and no callers.
  pub record ShowsStart (v : View) : Type 0 where
    pub this : v.this ≡ None
    pub arguments : v.arguments ≡ []
    pub locals : v.locals ≡ []
    pub statics : v.statics ≡ []
    pub callers : v.callers ≡ []
    pub lost : v.lost ≡ false

  abbrev pub ShowsSub : Option SubPlaces → ℕ → View → Type 0
  ShowsSub None pc v = ShowsStart v
  ShowsSub (Some sub) pc v = ShowsCall sub pc v

  -- This is the view of a computer with these words whose next instruction is at `pc`.
  pub record Walk (pc : ℕ) (v : View) : Type 0 where
    pub point : point_in places.ranges pc ≡ Some v.point
    pub shows : ShowsSub (sub_at places v.point.sub) pc v
