-- What the instructions of a step of linked code have to do, so that the memory holds the next state. (The book, chapters 7 and 8.)
use Rattle.std.specs.Prelude.{◌≡◌, ℕ, ◌+◌, ◌<◌, ◌%◌, List, [], ◌∷◌, Option, Some}
use Rattle.vm_link.specs.declared.linked.Step.{Step}
use Rattle.vm_link.specs.declared.linked.Step.TheVariants as step
use Rattle.vm_link.specs.declared.linked.Linked.{Linked}
use Rattle.vm_templates.specs.declared.shape.Shape.{Shape}
use Rattle.vm_templates.specs.Templates.{size}
use Rattle.vm_templates.specs.Commands.{IsShape, Ready, Effect, next}
use Rattle.vm_machine.specs.State.{Frame, State}
use Rattle.vm_machine.specs.Sound.{IsSoundState}
use Rattle.vm_translator.specs.Shapes.{shape_of}
use Rattle.vm_translator.specs.Stands.{SameMemory}

-- `address` leads from the places of code to addresses below 32,768.
module _ (address : Option ℕ → ℕ → ℕ) where
  -- where a step of this function leads
  abbrev pub IsTarget : Option ℕ → ℕ → Step → Type 0
  IsTarget function to (step.Goto p) = to ≡ address function p
  IsTarget function to (step.IfGoto p) = to ≡ address function p
  IsTarget function to (step.Call g n) = to ≡ address (Some g) 0
  IsTarget function to c = Unit {0}

  -- where the innermost frame goes on
  abbrev pub place_of : List Frame → ℕ
  place_of [] = 0
  place_of (f ∷ below) = address f.function f.place

  -- The command is ready in this memory, and after its effect the memory holds the state, and the command leads to where that goes on.
  pub record Carries (c : Shape) (here : ℕ) (m : ℕ → ℕ) (v : State) : Type 0 where
    pub shape : IsShape c
    pub ready : Ready c m
    pub leads : (after : ℕ → ℕ) → Effect c here m after → SameMemory address v after
    pub to : next c here m ≡ place_of v.frames

  -- A step of a sound state's innermost frame, whose instructions are at `here`, and `to` is where it leads.
  pub record IsStep (l : Linked) (v : State) (f : Frame) (below : List Frame) (c : Step) (here to : ℕ) (m : ℕ → ℕ) : Type 0 where
    pub frames : v.frames ≡ f ∷ below
    pub sound : IsSoundState l v
    pub memory : SameMemory address v m
    pub words : (k : ℕ) → m k < 65536
    pub low : (function : Option ℕ) (p : ℕ) → address function p < 32768
    pub after : (here + size (shape_of to c)) % 32768 ≡ address f.function (f.place + 1)
    pub target : IsTarget f.function to c
