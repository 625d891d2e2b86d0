-- Calls of the operating system's routines, by their names, and what they leave (book, chapter 12).
use Rattle.std.specs.Prelude.{◌≡◌, ◌≤◌, ◌<◌, ◌+◌, ℕ, List, [], ◌∷◌, ◌++◌, length, Option, Some, None, codes, if◌then◌else◌}
use Rattle.std.specs.Str.{bytes_eq}
use Rattle.jack_core.specs.Texts.{the_subroutines}
use Rattle.jack_core.specs.declared.program.Core.{Core}
use Rattle.jack_meaning.specs.Text.{Subroutine}
use Rattle.jack_meaning.specs.Meaning.{State}
use Rattle.jack_names.specs.declared.scope.Declared.{Declared}
use Rattle.jack_names.specs.declared.scope.Slot.{Slot}
use Rattle.jack_names.specs.declared.scope.Slot.TheVariants as slot
use Rattle.jack_names.specs.Numbers.{class_number, subroutine_number, in_class, member_slots, static_count}
use Rattle.name_table.specs.Names.{find_value}
use Rattle.jack_tree.specs.Syntax.{ClassFile}
use Rattle.os_laws.specs.Calls.{NextCall, ComesToCall, after, given_back}
use Rattle.os_laws.specs.Names.{IsShipped, statics_in}

-- the number to which the names of a class and of a routine in it lead, in a program with the system as it is shipped
abbrev pub routine_number : {core : Core} → IsShipped core → List ℕ → List ℕ → ℕ
routine_number p class name = in_class (subroutine_number (p.own ++ p.os)) (class_number (p.own ++ p.os) class) name

-- the number of a variable that is a static
abbrev static_of : Slot → Option ℕ
static_of (slot.Static k) = Some k
static_of _ = None

abbrev slot_number : Option Declared → Option ℕ
slot_number None = None
slot_number (Some d) = static_of d.slot

-- The number of a static of one of these classes, before whose statics stand n others; none where no class has this
-- name, or the class no such static.
abbrev pub static_from : ℕ → List ClassFile → List ℕ → List ℕ → Option ℕ
static_from n [] class name = None
static_from n (c ∷ cs) class name =
    if bytes_eq class c.class.name.text then slot_number (find_value name (member_slots (λ x. None) 0 n c.class.variables)) else static_from (n + static_count c.class.variables) cs class name

-- One of the system's classes has this static, with this number: the system's statics come after those of the folder's
-- classes.
abbrev pub IsStatic : {core : Core} → IsShipped core → List ℕ → List ℕ → ℕ → Type 0
IsStatic p class name k = static_from (statics_in p.own) p.os class name ≡ Some k

-- the numbers of the statics of which laws speak (each is there: StaticLaws)
pub record HasStatics {core : Core} (p : IsShipped core) : Type 0 where
  pub free : ℕ
  pub font : ℕ
  pub place : ℕ
  pub right : ℕ
  pub black : ℕ
  pub is_free : IsStatic p (codes "Memory") (codes "free") free
  pub is_font : IsStatic p (codes "Output") (codes "font") font
  pub is_place : IsStatic p (codes "Output") (codes "place") place
  pub is_right : IsStatic p (codes "Output") (codes "right") right
  pub is_black : IsStatic p (codes "Screen") (codes "black") black

pub record StaticLaws : Type 0 where
  -- the shipped texts declare them
  pub there : {core : Core} (p : IsShipped core) → HasStatics p
  -- and each has a number of its own
  pub apart : {core : Core} (p : IsShipped core) (h : HasStatics p)
      → (h.free < h.font) × (h.font < h.place) × (h.place < h.right) × (h.right < h.black)

-- The next step of the state is a call of this routine with these values.
abbrev pub CallsNext : {core : Core} → IsShipped core → List ℕ → List ℕ → State → List ℕ → Type 0
CallsNext {core} p class name s values = NextCall (the_subroutines core) s (routine_number p class name) values

-- Under every key, from the call on, n steps lead to this state, which has as many frames as the first one. Before the
-- last of them there are more: the call has not come back.
pub record Returns (subs : List Subroutine) (s : State) (n : ℕ) (s' : State) : Type 0 where
  pub some : 0 < n
  pub leads : (keys : ℕ → ℕ) → after subs keys n s ≡ Some s'
  pub frames : length s'.frames ≡ length s.frames
  pub inside : (keys : ℕ → ℕ) (j : ℕ) → 0 < j → j < n
      → (t : State) × (after subs keys j s ≡ Some t) × (length s.frames < length t.frames)

module _ {subs : List Subroutine} {s : State} {g : ℕ} {values : List ℕ} (c : NextCall subs s g values) where
  -- Within this many steps the call comes back with this value, and nothing else has changed.
  abbrev pub Gives : ℕ → ℕ → Type 0
  Gives most w = (n : ℕ) × (n ≤ most) × Returns subs s n (given_back s c.caller c.below w)

  -- The same where these are the statics and the words afterwards.
  abbrev pub Leaves : ℕ → ℕ → List ℕ → List ℕ → Type 0
  Leaves most w statics words = (n : ℕ) × (n ≤ most) × Returns subs s n (record (given_back s c.caller c.below w) { statics = statics; words = words })

-- Within this many steps the call that was made calls Sys.error with this number; nothing else has
-- changed.
abbrev pub Refuses : {core : Core} (p : IsShipped core) {s : State} {g : ℕ} {values : List ℕ} → NextCall (the_subroutines core) s g values → ℕ → ℕ → Type 0
Refuses p c most number = (n : ℕ) × (n ≤ most) × ComesToCall c (routine_number p (codes "Sys") (codes "error")) (number ∷ []) n
