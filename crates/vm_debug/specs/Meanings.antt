-- The view of a state of a program's meaning.
use Rattle.std.specs.Prelude.{◌≡◌, ◌+◌, ℕ, false, if◌then◌else◌, List, [], ◌∷◌, length, Option, Some, None, option_map, slice_get, slice_index}
use Rattle.jack_tree.specs.declared.tree.Form.{Form}
use Rattle.jack_tree.specs.declared.tree.Form.TheVariants as form
use Rattle.vm_link.specs.declared.linked.Linked.{Linked}
use Rattle.jack_meaning.specs.Text.{Kind, Constructor, Function, Method, Program, Subroutine}
use Rattle.jack_meaning.specs.Meaning.{Frame, State, subroutine_at, text_point}
use Rattle.jack_compiler.specs.Files.{statics_before}
use Rattle.jack_compiler.specs.Statics.{has_word, static_word}
use Rattle.jack_debug.specs.declared.places.Places.{Places}
use Rattle.jack_debug.specs.declared.places.PlacedStatic.{PlacedStatic}
use Rattle.jack_debug.specs.declared.places.SubPlaces.{SubPlaces}
use Rattle.jack_debug.specs.declared.seen.Caller.{Caller}
use Rattle.jack_debug.specs.declared.seen.Variable.{Variable}
use Rattle.jack_debug.specs.declared.seen.View.{View}
use Rattle.jack_debug.specs.Walk.{sub_at, name_of, first_named, variables_from, statics_of}

abbrev pub kind_of : Form → Kind
kind_of form.Constructor = Constructor
kind_of form.Function = Function
kind_of form.Method = Method

-- The places name the variables of a subroutine of the program: a method's object has no name.
pub record Names (sub : SubPlaces) (meant : Subroutine) : Type 0 where
  pub kind : meant.kind ≡ kind_of sub.form
  pub arguments : first_named sub.form + length sub.arguments ≡ meant.arguments
  pub locals : length sub.locals ≡ meant.locals

-- Statics, from the one of this number on, have the addresses of the words that linking gives them, or none.
abbrev pub HaveWords : Program → Linked → ℕ → List PlacedStatic → Type 0
HaveWords program linked k [] = Unit {0}
HaveWords program linked k (s ∷ ss) = (s.address ≡ (if has_word program linked k then Some (16 + static_word program linked k) else None)) × HaveWords program linked (k + 1) ss

-- These are the statics of the class of this number, all of them.
pub record AreStaticsOf (program : Program) (linked : Linked) (class : ℕ) (ss : List PlacedStatic) : Type 0 where
  pub all : option_map (λ c. c.statics) (slice_get program.classes class) ≡ Some (length ss)
  pub words : HaveWords program linked (statics_before program.classes class) ss

module _ (places : Places) (index : ℕ → ℕ) where
  abbrev pub caller_of : Frame → Caller
  caller_of f = record { sub = name_of (sub_at places (index f.subroutine)) (index f.subroutine); number = text_point f.text }

  abbrev pub callers_of : List Frame → List Caller
  callers_of [] = []
  callers_of (f ∷ below) = caller_of f ∷ callers_of below

  -- a function has no `this`
  abbrev pub this_of : Form → Frame → Option ℕ
  this_of form.Constructor f = Some f.this
  this_of form.Method f = Some f.this
  this_of form.Function f = None

  -- statics with their values, from the one of this number on
  abbrev pub statics_from : List ℕ → ℕ → List PlacedStatic → List Variable
  statics_from values k [] = []
  statics_from values k (s ∷ ss) = record { name = s.name; word = slice_index values k } ∷ statics_from values (k + 1) ss

  -- the view of a state whose top frame is f, a call of this subroutine, over those below it
  abbrev pub view_of : Program → SubPlaces → State → Frame → List Frame → View
  view_of program sub s f below = record {
    point = record { sub = index f.subroutine; number = text_point f.text };
    this = this_of sub.form f;
    arguments = variables_from (λ k. slice_index f.arguments k) (first_named sub.form) sub.arguments;
    locals = variables_from (λ k. slice_index f.locals k) 0 sub.locals;
    statics = statics_from s.statics (statics_before program.classes (subroutine_at program.subroutines f.subroutine).class) (statics_of (slice_get places.classes sub.class));
    callers = callers_of below;
    lost = false;
  }
