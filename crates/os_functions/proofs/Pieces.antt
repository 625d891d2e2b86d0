-- Calls of routines that call nothing: what their runs are said by.
use Rattle.std.proofs.Common.{◌≡◌, ℕ, suc, ◌≤◌, List, [], ◌∷◌, Some, codes, refl, sym, subst}
use Rattle.jack_core.specs.declared.program.Core.{Core}
use Rattle.jack_core.specs.Texts.{the_subroutines}
use Rattle.jack_meaning.specs.Text.{Value, Call as Calling, Open, NoMore, More, Do, Return, Text, End, Next, Subroutine}
use Rattle.jack_meaning.specs.Meaning.{State, subroutine_at}
use Rattle.os_laws.specs.Calls.{ComesToCall}
use Rattle.os_laws.specs.Names.{IsShipped}
use Rattle.os_laws.proofs.Basics.{frame_with}
use Rattle.os_laws.proofs.Runs.{Call, run}
use Rattle.os_functions.specs.Calls.{routine_number, CallsNext, Gives, Leaves, Refuses}
use Rattle.os_functions.proofs.Ways.{leaf, comes_to}

-- the call of the routine g: its object, the statics and the words, what is left of its text, its arguments and its locals
abbrev pub in_call : ℕ → ℕ → List ℕ → List ℕ → Text → List ℕ → List ℕ → Call
in_call g this ss ws t xs ls = record { frame = record { subroutine = g; arguments = xs; locals = ls; this = this; text = t }; statics = ss; words = ws }

-- what follows a first statement
abbrev pub tail : Text → Text
tail End = End
tail (Next t rest) = rest

abbrev pub returns_value : ℕ → ℕ → Text → Text
returns_value k w rest = Next (Return k (Value w)) rest

abbrev pub erring : ℕ → ℕ → Text → Text
erring error v rest = Next (Do 2 (Calling error (More (Value v) NoMore))) rest

module _ {core : Core} (p : IsShipped core) (s : State) (class name : List ℕ) (values : List ℕ) (c : CallsNext p class name s values) where
  abbrev subs : List Subroutine
  subs = the_subroutines core

  abbrev number : ℕ
  number = routine_number p class name

  abbrev first : Subroutine → Call
  first sub = record { frame = frame_with number sub values; statics = s.statics; words = s.words }

  pub leaves_by : (n most : ℕ) → suc (suc n) ≤ most → (sub : Subroutine) → subroutine_at subs number ≡ sub → (this : ℕ) (ss ws : List ℕ) (k w : ℕ) (rest : Text) (xs ls : List ℕ)
      → run subs n (first sub) ≡ Some (in_call number this ss ws (returns_value k w rest) xs ls) → Leaves c most w ss ws
  leaves_by n most enough sub is this ss ws k w rest xs ls ran = (suc (suc n), enough, leaf subs s number values c n sub (in_call number this ss ws End xs ls).frame ss ws k w rest is ran)

  pub gives_by : (n most : ℕ) → suc (suc n) ≤ most → (sub : Subroutine) → subroutine_at subs number ≡ sub → (this k v w : ℕ) → v ≡ w → (rest : Text) (xs ls : List ℕ)
      → run subs n (first sub) ≡ Some (in_call number this s.statics s.words (returns_value k v rest) xs ls) → Gives c most w
  gives_by n most enough sub is this k v w same rest xs ls ran = subst (Gives c most) same (leaves_by n most enough sub is this s.statics s.words k v rest xs ls ran)

  pub refuses_by : (n most : ℕ) → suc (suc n) ≤ most → (sub : Subroutine) → subroutine_at subs number ≡ sub → (error : ℕ) → routine_number p (codes "Sys") (codes "error") ≡ error → (this v : ℕ) (rest : Text) (xs ls : List ℕ)
      → run subs n (first sub) ≡ Some (in_call number this s.statics s.words (erring error v rest) xs ls) → Refuses p c most v
  refuses_by n most enough sub is error same this v rest xs ls ran = (
    suc (suc n),
    enough,
    subst (λ e. ComesToCall c e (v ∷ []) (suc (suc n))) (sym same)
        (comes_to subs s number values c n sub (in_call number this s.statics s.words (erring error v rest) xs ls).frame (in_call number this s.statics s.words (Next (Do 2 Open) rest) xs ls).frame error (v ∷ []) is ran (λ below. refl)),
  )
