-- What a step of the top frame does, by the meaning.
use Rattle.std.specs.Prelude.{◌≡◌, ℕ, ◌+◌, List, ◌∷◌, Bool, true, false, Some, drop, map, reverse, slice_get, slice_set}
use Rattle.jack_meaning.specs.Text.{Variable, Argument, Local, Static, Text, Next, Subroutine, Value, Open}
use Rattle.jack_meaning.specs.Meaning.{Frame, State, Outcome, Acts, Stray, Done, step, new_frame, after_return, after_store, passed_over, with_top}
use Rattle.jack_core.specs.declared.tree.Part.{Part}
use Rattle.jack_core.specs.declared.tree.Part.TheVariants as part
use Rattle.jack_core.specs.Reading.{build_expressions}
use Rattle.jack_core.specs.declared.program.Statement.{Statement}
use Rattle.jack_machine.specs.Parts.{parts_of}
use Rattle.jack_machine.specs.Looks.{passed_values, spared_values}
use Rattle.jack_machine.specs.Texts.{the_text, the_waiting_text, the_after, the_expressions, written_statement, written_first}
use Rattle.jack_machine.specs.Effects.{outcome_on}
use Rattle.jack_machine.specs.declared.effects.Effect.{Effect}
use Rattle.jack_machine.specs.declared.looking.Variables.{Variables}
use Rattle.jack_machine.specs.declared.looking.Memory.{Memory}
use Rattle.jack_machine.specs.declared.frames.Frame.{Frame as FrameTree}
use Rattle.jack_machine.specs.declared.frames.Act.{Act}

-- a frame with this text
abbrev pub with_text : FrameTree → Text → Frame
with_text f t = record { subroutine = f.subroutine; arguments = f.variables.arguments.items; locals = f.variables.locals.items; this = f.variables.this; text = t }

abbrev pub the_frame : FrameTree → Frame
the_frame f = with_text f (the_text f.text)

-- a frame that waits for a call
abbrev pub the_waiting_frame : FrameTree → Frame
the_waiting_frame f = with_text f (the_waiting_text f.text)

-- the state of a top frame over these others
abbrev pub state_over : Frame → Memory → List Frame → State
state_over f m below = record { frames = f ∷ below; statics = m.statics.items; words = m.words.items }

abbrev pub the_state : FrameTree → Memory → List Frame → State
the_state f m below = state_over (the_frame f) m below

-- the meaning sees no difference
pub record IsSameTop (f : FrameTree) (m : Memory) (f' : FrameTree) (m' : Memory) : Type 0 where
  pub frame : the_frame f' ≡ the_frame f
  pub statics : m'.statics.items ≡ m.statics.items
  pub words : m'.words.items ≡ m.words.items

-- nothing has changed
abbrev pub IsLeft : FrameTree → Memory → FrameTree → Memory → Type 0
IsLeft f m f' m' = (f' ≡ f) × (m' ≡ m)

-- a variable gets a value, and nothing else changes
abbrev pub Assigns : Variable → ℕ → Variables → Memory → Variables → Memory → Type 0
Assigns (Argument k) w f m f' m' = (f'.arguments.items ≡ slice_set f.arguments.items k w) × (f'.locals.items ≡ f.locals.items) × (f'.this ≡ f.this) × (m'.statics.items ≡ m.statics.items) × (m'.words.items ≡ m.words.items)
Assigns (Local k) w f m f' m' = (f'.arguments.items ≡ f.arguments.items) × (f'.locals.items ≡ slice_set f.locals.items k w) × (f'.this ≡ f.this) × (m'.statics.items ≡ m.statics.items) × (m'.words.items ≡ m.words.items)
Assigns (Static k) w f m f' m' = (f'.arguments.items ≡ f.arguments.items) × (f'.locals.items ≡ f.locals.items) × (f'.this ≡ f.this) × (m'.statics.items ≡ slice_set m.statics.items k w) × (m'.words.items ≡ m.words.items)

-- the word at an address is replaced, or the address is outside
abbrev pub StoresAt : ℕ → ℕ → Memory → Bool → Memory → Type 0
StoresAt a w m true m' =
    ((s : State) (f : Frame) (below : List Frame) (rest : Text) → s.words ≡ m.words.items → after_store s f below rest a w ≡ passed_over (record s { words = m'.words.items }) f below rest)
    × (m'.statics.items ≡ m.statics.items)
StoresAt a w m false m' = ((s : State) (f : Frame) (below : List Frame) (rest : Text) → after_store s f below rest a w ≡ Stray a) × (m' ≡ m)

-- an outcome of the top frame, by what the machine answers
abbrev pub IsOutcome : (List Frame → Outcome) → FrameTree → Memory → Act → FrameTree → Memory → Type 0
IsOutcome outcome f m Act.Acted f' m' = (below : List Frame) → outcome below ≡ Acts false (the_state f' m' below)
IsOutcome outcome f m (Act.Returns w) f' m' = ((below : List Frame) → outcome below ≡ after_return (the_state f m below) below w) × IsLeft f m f' m'
IsOutcome outcome f m (Act.Strays a) f' m' = ((below : List Frame) → outcome below ≡ Stray a) × IsLeft f m f' m'
IsOutcome outcome f m Act.Done f' m' = ((below : List Frame) → outcome below ≡ Done) × IsLeft f m f' m'
IsOutcome outcome f m Act.Heard f' m' = ⊥
IsOutcome outcome f m (Act.Calls g n) f' m' = ⊥

-- an effect of a statement that comes first, all parts of which are values
abbrev pub Applies : Statement → Effect → FrameTree → Memory → Act → FrameTree → Memory → Type 0
Applies s effect f m act f' m' =
    IsOutcome (λ below. outcome_on (the_state f m below) (the_frame f) below (Next (written_statement s (the_expressions f.text.front)) (the_after f.text.after.items)) effect) f m act f' m'

-- a frame in which the part that is next, a call, is open
abbrev pub opened_frame : Part → FrameTree → Frame
opened_frame p f =
    with_text f (written_first f.text.front.first (build_expressions (Open ∷ map Value (reverse (spared_values p f.text.front.values.items))) (drop (f.text.front.done + 1) (parts_of f.text.front.first))) (the_after f.text.after.items))

-- the state after a call: its arguments are in a new frame
abbrev pub called_state : List Subroutine → FrameTree → Memory → List Frame → ℕ → ℕ → State
called_state subs f m below g n = with_top (the_state f m below) (opened_frame (part.Call n g) f ∷ below) (new_frame subs g (passed_values (part.Call n g) f.text.front.values.items))

-- the part that is next is this one
abbrev pub IsNext : Part → FrameTree → Type 0
IsNext p f = slice_get (parts_of f.text.front.first) f.text.front.done ≡ Some p

-- the step of the meaning that the top frame makes, by what the machine answers
abbrev pub TopStep : List Subroutine → List Frame → ℕ → FrameTree → Memory → Act → FrameTree → Memory → Type 0
TopStep subs below key f m Act.Acted f' m' = step subs key (the_state f m below) ≡ Acts false (the_state f' m' below)
TopStep subs below key f m Act.Heard f' m' = step subs key (the_state f m below) ≡ Acts true (the_state f' m' below)
TopStep subs below key f m (Act.Calls g n) f' m' = (step subs key (the_state f m below) ≡ Acts false (called_state subs f m below g n)) × IsNext (part.Call n g) f × IsLeft f m f' m'
TopStep subs below key f m (Act.Returns w) f' m' = (step subs key (the_state f m below) ≡ after_return (the_state f m below) below w) × IsLeft f m f' m'
TopStep subs below key f m (Act.Strays a) f' m' = (step subs key (the_state f m below) ≡ Stray a) × IsLeft f m f' m'
TopStep subs below key f m Act.Done f' m' = (step subs key (the_state f m below) ≡ Done) × IsLeft f m f' m'
