-- The walk of the words of a memory that holds a state is the view of the state.
use Rattle.std.specs.Prelude.{◌≡◌, ◌≤◌, ◌+◌, ℕ, ◌∷◌, List, Some, slice_get}
use Rattle.hack_isa.specs.Machine.{Machine}
use Rattle.vm_link.specs.declared.linked.Linked.{Linked}
use Rattle.vm_link.specs.declared.linked.LinkedFunction.{LinkedFunction}
use Rattle.vm_machine.specs.State.{Frame, State, words_in_use}
use Rattle.vm_translator.specs.Mapping.{location}
use Rattle.vm_translator.specs.Related.{StandsFor}
use Rattle.vm_translator.specs.Seen.{IsImage}
use Rattle.jack_meaning.specs.Text.{Program}
use Rattle.jack_meaning.specs.Meaning.{subroutine_at}
use Rattle.jack_meaning.specs.Meaning.{Frame as MeantFrame}
use Rattle.jack_meaning.specs.Meaning.{State as MeantState}
use Rattle.jack_meaning.specs.StackWords.{stack_words}
use Rattle.jack_compiler.specs.Match.{Match}
use Rattle.jack_compiler.specs.Linked.{IsLinkedProgram}
use Rattle.jack_debug.specs.declared.places.Places.{Places}
use Rattle.jack_debug.specs.declared.places.SubPlaces.{SubPlaces}
use Rattle.jack_debug.specs.Walk.{Walk, sub_at, statics_of}
use Rattle.vm_debug.specs.Meanings.{Names, AreStaticsOf, view_of}
use Rattle.vm_debug.specs.Views.{IsPlacesOf, HaveCommands, FitsFrame, AreStatics, view_at}

pub record WalkOfLaw : Type 0 where
  pub walk_of : (l : Linked) (places : Places) (index : ℕ → ℕ) (v : State) (s : Machine)
      (f g : Frame) (below : List Frame) (k : ℕ) (fn : LinkedFunction) (sub : SubPlaces)
      → IsImage l → IsPlacesOf l places index → StandsFor (location l) l v s → v.frames ≡ f ∷ g ∷ below → words_in_use v.frames + 8 ≤ 1792 → HaveCommands l (f ∷ g ∷ below)
      → f.function ≡ Some k → slice_get l.functions k ≡ Some fn → sub_at places (index fn.number) ≡ Some sub → FitsFrame sub f → AreStatics (statics_of (slice_get places.classes sub.class))
      → Walk places s.memory s.pc (view_at l places index sub v f (g ∷ below))

pub record ViewOfLaw : Type 0 where
  -- the same of a state of the meaning that the virtual machine's matches
  pub view_of : (program : Program) (linked : Linked) (is : IsLinkedProgram program linked)
      (places : Places) (index : ℕ → ℕ) (s : MeantState) (v : State) (c : Machine)
      (f g : MeantFrame) (below : List MeantFrame) (sub : SubPlaces)
      → IsImage linked → IsPlacesOf linked places index → Match program is.numbers linked is.depth s v → StandsFor (location linked) linked v c → s.frames ≡ f ∷ g ∷ below → stack_words s.frames + 8 ≤ 1792
      → sub_at places (index f.subroutine) ≡ Some sub → Names sub (subroutine_at program.subroutines f.subroutine)
      → AreStaticsOf program linked (subroutine_at program.subroutines f.subroutine).class (statics_of (slice_get places.classes sub.class))
      → Walk places c.memory c.pc (view_of places index program sub s f (g ∷ below))
