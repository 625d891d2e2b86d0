-- What the debugger shows of a computer that is stopped just after a commit.
use Rattle.std.specs.Prelude.{◌≡◌, ℕ, suc, true, ◌∷◌, List, Some, slice_get}
use Rattle.image_map.specs.Computer.{endless_loop, run_trace}
use Rattle.hack_isa.specs.Machine.{machine_at}
use Rattle.simulation.specs.System.{IsKey, Listening, run_of, Tame}
use Rattle.simulation.specs.Trace.{steps, heard_keys}
use Rattle.image_map.specs.Map.{Map}
use Rattle.vm_link.specs.declared.linked.Linked.{Linked}
use Rattle.vm_translator.specs.Seen.{IsImage}
use Rattle.vm_translator.specs.Translated.{IsTranslated}
use Rattle.jack_meaning.specs.Text.{Program}
use Rattle.jack_meaning.specs.Meaning.{Frame, State, start, subroutine_at}
use Rattle.jack_meaning.specs.Level.{meaning_of}
use Rattle.jack_compiler.specs.Linked.{IsLinkedProgram}
use Rattle.jack_debug.specs.declared.places.Places.{Places}
use Rattle.jack_debug.specs.declared.places.SubPlaces.{SubPlaces}
use Rattle.jack_debug.specs.Walk.{Walk, sub_at, statics_of}
use Rattle.vm_debug.specs.Views.{IsPlacesOf}
use Rattle.vm_debug.specs.Meanings.{Names, AreStaticsOf, view_of}
use Rattle.vm_debug.specs.Program.{ArePlacesOf}

-- The computer is stopped before its cycle n. The meaning has come, over the keys that the computer has heard and by
-- the steps that it has committed, to a state. Let a call be its innermost frame, and let the places name the variables
-- of the called subroutine. Then the walk of the computer's words is the view of that state.
pub record ShowsRun (program : Program) (linked : Linked) (places : Places) (index : ℕ → ℕ) (image : List ℕ) (map : Map) (keys : ℕ → ℕ) (n : ℕ) : Type 0 where
  pub after : Listening State
  pub run : run_of (meaning_of program.subroutines) (start program)
      (heard_keys (run_trace image map keys) n) (steps (run_trace image map keys) n) ≡ Some after
  pub shows : (f g : Frame) (below : List Frame) (sub : SubPlaces)
      → after.state.frames ≡ f ∷ g ∷ below → sub_at places (index f.subroutine) ≡ Some sub
      → Names sub (subroutine_at program.subroutines f.subroutine)
      → AreStaticsOf program linked (subroutine_at program.subroutines f.subroutine).class (statics_of (slice_get places.classes sub.class))
      → Walk places (machine_at image keys n).memory (machine_at image keys n).pc (view_of places index program sub after.state f (g ∷ below))

-- So it is where the cycle before was a commit, as long as the meaning is tame up to there.
abbrev pub DebuggedLaw : Type 0
DebuggedLaw = (program : Program) (linked : Linked) → IsLinkedProgram program linked → IsImage linked → (image : List ℕ) (map : Map) → IsTranslated linked image map endless_loop
    → (places : Places) (index : ℕ → ℕ) → IsPlacesOf linked places index
    → (keys : ℕ → ℕ) → ((c : ℕ) → IsKey (keys c)) → (n : ℕ) → (run_trace image map keys).commits n ≡ true
    → Tame (meaning_of program.subroutines) (start program) (heard_keys (run_trace image map keys) (suc n)) (steps (run_trace image map keys) (suc n))
    → ShowsRun program linked places index image map keys (suc n)

-- The same where the places are those of the program, which name the variables of each subroutine that they have.
pub record ShowsProgram (program : Program) (places : Places) (image : List ℕ) (map : Map) (keys : ℕ → ℕ) (n : ℕ) : Type 0 where
  pub after : Listening State
  pub run : run_of (meaning_of program.subroutines) (start program)
      (heard_keys (run_trace image map keys) n) (steps (run_trace image map keys) n) ≡ Some after
  pub shows : (f g : Frame) (below : List Frame) (sub : SubPlaces)
      → after.state.frames ≡ f ∷ g ∷ below → sub_at places f.subroutine ≡ Some sub
      → Walk places (machine_at image keys n).memory (machine_at image keys n).pc (view_of places (λ g. g) program sub after.state f (g ∷ below))

abbrev pub DebuggedProgramLaw : Type 0
DebuggedProgramLaw = (program : Program) (linked : Linked) → IsLinkedProgram program linked → IsImage linked → (image : List ℕ) (map : Map) → IsTranslated linked image map endless_loop
    → (places : Places) → ArePlacesOf program linked places
    → (keys : ℕ → ℕ) → ((c : ℕ) → IsKey (keys c)) → (n : ℕ) → (run_trace image map keys).commits n ≡ true
    → Tame (meaning_of program.subroutines) (start program) (heard_keys (run_trace image map keys) (suc n)) (steps (run_trace image map keys) (suc n))
    → ShowsProgram program places image map keys (suc n)
