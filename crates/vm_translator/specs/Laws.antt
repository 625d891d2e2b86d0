-- The laws of states that the memory holds.
use Rattle.std.specs.Prelude.{◌≡◌, ◌≢◌, ◌⊎◌, ℕ, false, true, List, Option}
use Rattle.word16.specs.Memory.{keyboard}
use Rattle.machine_io.specs.declared.machine.Stray.TheVariants as stray
use Rattle.vm_link.specs.declared.linked.Step.{Step}
use Rattle.vm_link.specs.declared.linked.Linked.{Linked}
use Rattle.vm_templates.specs.declared.shape.Shape.{Shape}
use Rattle.vm_templates.specs.Effects.{Pushed}
use Rattle.vm_templates.specs.Commands.{IsShape, HasRoom, HasValues, PushesFrom, PopsTo, next}
use Rattle.vm_machine.specs.State.{Frame, State}
use Rattle.vm_machine.specs.Step.{Acts, Strays, act, fit_outcome}
use Rattle.vm_translator.specs.Stands.{SameMemory}
use Rattle.vm_translator.specs.Shapes.{shape_of}
use Rattle.vm_translator.specs.Carries.{place_of, Carries, IsStep}

-- A push hears the key: the word that it reads is the keyboard's, and after the key is pushed the memory holds the state.
pub record CarriesKey (address : Option ℕ → ℕ → ℕ) (c : Shape) (here key : ℕ) (m : ℕ → ℕ) (v : State) : Type 0 where
  pub shape : IsShape c
  pub room : HasRoom 1 m
  pub at_key : PushesFrom c m keyboard
  pub leads : (after : ℕ → ℕ) → Pushed m after key → SameMemory address v after
  pub to : next c here m ≡ place_of address v.frames

-- a push of a word that is not the keyboard's
pub record MissesPush (c : Shape) (m : ℕ → ℕ) : Type 0 where
  pub shape : IsShape c
  pub from : ℕ
  pub pushes : PushesFrom c m from
  pub apart : from ≢ keyboard

-- a pop to where a register points, whatever the address is
pub record MissesPop (c : Shape) (m : ℕ → ℕ) : Type 0 where
  pub shape : IsShape c
  pub to : ℕ
  pub pops : PopsTo c m to
  pub values : HasValues 1 m

module _ (address : Option ℕ → ℕ → ℕ) (l : Linked) (v : State) (f : Frame) (below : List Frame) (here to : ℕ) (m : ℕ → ℕ) where
  -- what holds of a step of the innermost frame of a state that the memory holds
  pub record StepsCarry : Type 0 where
    -- a step that acts and does not hear the key
    pub acts : (key : ℕ) (c : Step) (v' : State) → IsStep address l v f below c here to m → fit_outcome (act key c v f below) ≡ Acts false v' → Carries address (shape_of to c) here m v'
    -- a step that hears the key
    pub hears : (key : ℕ) (c : Step) (v' : State) → IsStep address l v f below c here to m → fit_outcome (act key c v f below) ≡ Acts true v' → CarriesKey address (shape_of to c) here key m v'
    -- a step that goes astray at an address
    pub misses : (key : ℕ) (c : Step) (a : ℕ) → IsStep address l v f below c here to m → fit_outcome (act key c v f below) ≡ Strays (stray.Address a) → MissesPush (shape_of to c) m ⊎ MissesPop (shape_of to c) m

abbrev pub AllStepsCarry : Type 0
AllStepsCarry = (address : Option ℕ → ℕ → ℕ) (l : Linked) (v : State) (f : Frame) (below : List Frame) (here to : ℕ) (m : ℕ → ℕ) → StepsCarry address l v f below here to m
