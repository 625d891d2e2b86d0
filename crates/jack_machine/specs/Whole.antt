-- A step of the whole machine, and its history, by the meaning.
use Rattle.std.specs.Prelude.{◌≡◌, ℕ, Bool, List, [], ◌∷◌, ◌-◌, slice_index}
use Rattle.word16.specs.Memory.{heap}
use Rattle.machine_io.specs.History.{Turn}
use Rattle.machine_io.specs.declared.machine.Moved.{Moved}
use Rattle.machine_io.specs.declared.machine.Stray.TheVariants as Why
use Rattle.outer_world.specs.declared.point.Point.{Point}
use Rattle.jack_meaning.specs.Text.{Subroutine}
use Rattle.jack_meaning.specs.Meaning.{State, Outcome, Acts, Stray, Done, step, start, point_of}
use Rattle.jack_core.specs.Texts.{the_subroutines, the_program}
use Rattle.jack_machine.specs.Frames.{the_state, called_state}
use Rattle.jack_machine.specs.Machine.{the_stack}
use Rattle.jack_machine.specs.declared.jack.Jack.{Jack}

-- the state that the machine stands for
abbrev pub jack_state : Jack → State
jack_state j = the_state j.top j.memory (the_stack j.below.items)

abbrev pub jack_point : Jack → Point
jack_point j = record { sub = (point_of (jack_state j).frames).0; number = (point_of (jack_state j).frames).1 }

-- nothing has changed that the meaning sees
abbrev pub IsSame : Jack → Jack → Type 0
IsSame old new = jack_state new ≡ jack_state old

-- the state after a call
abbrev pub IsCalled : ℕ → ℕ → Jack → Jack → Type 0
IsCalled g n old new = jack_state new ≡ called_state (the_subroutines old.core.now) old.top old.memory (the_stack old.below.items) g n

-- the step of the meaning, by what the machine answers
abbrev pub JackStep : ℕ → Jack → Moved → Jack → Type 0
JackStep key old Moved.Acted new = (heard : Bool) × (step (the_subroutines old.core.now) key (jack_state old) ≡ Acts heard (jack_state new))
JackStep key old (Moved.Stray (Why.Address a)) new = (step (the_subroutines old.core.now) key (jack_state old) ≡ Stray a) × IsSame old new
JackStep key old Moved.Done new = (step (the_subroutines old.core.now) key (jack_state old) ≡ Done) × IsSame old new
JackStep key old _ new = ⊥

-- the answer that stands for an outcome
abbrev pub answer_of : Outcome → Moved
answer_of (Acts heard s) = Moved.Acted
answer_of (Stray a) = Moved.Stray (Why.Address a)
answer_of Done = Moved.Done

-- the answer of the machine to a key, as it stands
abbrev pub jack_reply : Jack → ℕ → Moved
jack_reply j key = answer_of (step (the_subroutines j.core.now) key (jack_state j))

-- A turn of the meaning: its answer to a key, and the state after it.
abbrev pub IsTurn : List Subroutine → State → Turn → State → Type 0
IsTurn subs s t s' = by_answer t.answer
  where
    by_answer : Moved → Type 0
    by_answer Moved.Acted = (heard : Bool) × (step subs t.key s ≡ Acts heard s')
    by_answer (Moved.Stray (Why.Address a)) = (step subs t.key s ≡ Stray a) × (s' ≡ s)
    by_answer Moved.Done = (step subs t.key s ≡ Done) × (s' ≡ s)
    by_answer _ = ⊥

-- the turns of a history lead from one state to another
abbrev pub Leads : List Subroutine → State → List Turn → State → Type 0
Leads subs s [] s' = s' ≡ s
Leads subs s (t ∷ ts) s' = (between : State) × IsTurn subs s t between × Leads subs between ts s'

-- The machine stands where this history leads from the program's start.
abbrev pub Stands : Jack → List Turn → Type 0
Stands j turns = Leads (the_subroutines j.core.now) (start (the_program j.core.now)) turns (jack_state j)

-- the word at an address of heap or screen
abbrev pub jack_word : Jack → ℕ → ℕ
jack_word j a = slice_index j.memory.words.items (a - heap)
