-- The frames of a vector.
use Rattle.std.proofs.Common.{◌≡◌, List, [], ◌∷◌, ◌++◌, map, reverse, ap, ◌∙◌}
use Rattle.std.proofs.lemmas.List.{map-append, reverse-append}
use Rattle.jack_machine.specs.Frames.{the_waiting_frame}
use Rattle.jack_machine.specs.Machine.{the_stack}
use Rattle.jack_machine.specs.declared.frames.Frame.{Frame as FrameTree}

-- one more frame at the end of the vector is one more on top
pub stack_more : (fs : List FrameTree) (f : FrameTree) → the_stack (fs ++ f ∷ []) ≡ the_waiting_frame f ∷ the_stack fs
stack_more fs f = ap reverse (map-append the_waiting_frame fs (f ∷ [])) ∙ reverse-append (map the_waiting_frame fs) (the_waiting_frame f ∷ [])
