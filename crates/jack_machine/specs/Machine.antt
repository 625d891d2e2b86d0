-- What the whole machine stands for.
use Rattle.std.specs.Prelude.{◌≡◌, ℕ, Bool, true, false, List, [], ◌∷◌, map, reverse, replicate}
use Rattle.jack_meaning.specs.Text.{Subroutine}
use Rattle.jack_meaning.specs.Meaning.{Frame, this_of, filled_text, start_text}
use Rattle.jack_core.specs.declared.tree.Part.{Part}
use Rattle.jack_machine.specs.Frames.{the_frame, the_waiting_frame, opened_frame}
use Rattle.jack_machine.specs.declared.frames.Frame.{Frame as FrameTree}

-- the frames of a vector, all of which wait for a call, the last one first
abbrev pub the_stack : List FrameTree → List Frame
the_stack fs = reverse (map the_waiting_frame fs)

-- the frame of a call
abbrev pub entered_frame : ℕ → Subroutine → List ℕ → Frame
entered_frame g sub xs = record {
  subroutine = g;
  arguments = xs;
  locals = replicate sub.locals 0;
  this = this_of sub.kind xs;
  text = sub.body;
}

-- the old top frame waits below the new one, with its call open
pub record IsEntered (p : Part) (top : FrameTree) (below : List FrameTree) (entered top' : FrameTree) (below' : List FrameTree) : Type 0 where
  pub on_top : top' ≡ entered
  pub waiting : the_stack below' ≡ opened_frame p top ∷ the_stack below

-- the caller goes on with the value, or there is no caller
abbrev pub IsReturned : ℕ → FrameTree → List FrameTree → Bool → FrameTree → List FrameTree → Type 0
IsReturned w top below true top' below' =
    (f : Frame) × (the_stack below ≡ f ∷ the_stack below') × (the_frame top' ≡ record f { text = filled_text w f.text })
IsReturned w top below false top' below' = (the_stack below ≡ []) × (the_stack below' ≡ []) × (top' ≡ top)

-- the first frame, `start`
abbrev pub start_frame : ℕ → Frame
start_frame init = record { subroutine = 0; arguments = []; locals = []; this = 0; text = start_text init }
