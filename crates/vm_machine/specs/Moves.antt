-- What the machine answers, and the state after it.
use Rattle.std.specs.Prelude.{◌≡◌, ℕ, List, ◌∷◌}
use Rattle.machine_io.specs.declared.machine.Moved.{Moved}
use Rattle.machine_io.specs.declared.machine.Moved.TheVariants as moved
use Rattle.vm_machine.specs.State.{State}
use Rattle.vm_machine.specs.Step.{Outcome, Acts, Strays, Full, Done}
use Rattle.vm_machine.specs.Calls.{Calls}

-- the answer that stands for an outcome
abbrev pub answer_of : Outcome → Moved
answer_of (Acts heard s) = moved.Acted
answer_of (Strays why) = moved.Stray why
answer_of (Full w) = moved.Full w
answer_of Done = moved.Done

-- the state after it: where there is no step, the old one
abbrev pub state_or : State → Outcome → State
state_or s (Acts heard s') = s'
state_or s (Strays why) = s
state_or s (Full w) = s
state_or s Done = s

-- a machine in one state makes of this outcome this answer and another state
pub record Makes (outcome : Outcome) (s : State) (answer : Moved) (s' : State) : Type 0 where
  pub answer_is : answer ≡ answer_of outcome
  pub state_is : s' ≡ state_or s outcome

-- the words that are no stack
pub record Words : Type 0 where
  pub statics : List ℕ
  pub temps : List ℕ
  pub heap_and_screen : List ℕ

-- calls in progress over these words
abbrev pub state_of : Calls → Words → State
state_of c w = record { frames = c.top ∷ c.below; statics = w.statics; temps = w.temps; words = w.heap_and_screen }
