-- The meaning as a machine that moves in steps, and its runs over a list of keys.
use Rattle.std.specs.Prelude.{ℕ, ◌+◌, ◌-◌, nat_le, Bool, true, false, List, slice_index, Option, Some, None}
use Rattle.word16.specs.Memory.{heap}
use Rattle.outer_world.specs.declared.point.Point.{Point}
use Rattle.simulation.specs.System.{System, Listening, run_of, Tame}
use Rattle.jack_meaning.specs.Text.{Subroutine, Program}
use Rattle.jack_meaning.specs.Meaning.{State, Outcome, Acts, Stray, Done, step, start, point_of}
use Rattle.jack_meaning.specs.StackWords.{stack_words}

-- the state after a step, where one is made
abbrev pub next_of : Outcome → Option State
next_of (Acts heard s) = Some s
next_of (Stray a) = None
next_of Done = None

-- whether a step hears the key
abbrev pub has_heard : Outcome → Bool
has_heard (Acts heard s) = heard
has_heard (Stray a) = false
has_heard Done = false

-- whether no statement is left
abbrev pub is_done : Outcome → Bool
is_done (Acts heard s) = false
is_done (Stray a) = false
is_done Done = true

-- the control point of a state
abbrev pub point_in : State → Point
point_in s = record { sub = (point_of s.frames).0; number = (point_of s.frames).1 }

-- Every step counts. With eight words to spare the stack (the words 256 to 2047) holds all frames. Whether a step hears the key, and
-- whether there is a step, is the same under every key, so it is asked of key 0.
abbrev pub meaning_of : List Subroutine → System State
meaning_of subs = record {
  step = λ key s. next_of (step subs key s);
  commits = λ s. true;
  hears = λ s. has_heard (step subs 0 s);
  halted = λ s. is_done (step subs 0 s);
  fits = λ s. nat_le (stack_words s.frames + 8) 1792;
  point = λ s. Some (point_in s);
  word = λ s a. slice_index s.words (a - heap);
}

-- The state after m steps from the start, where the keys heard are those of a list; none where a step is missing.
abbrev pub run : Program → List ℕ → ℕ → Option (Listening State)
run program keys m = run_of (meaning_of program.subroutines) (start program) keys m

-- The first m steps exist, and at every state from the start to the m-th the frames fit.
abbrev pub IsTame : Program → List ℕ → ℕ → Type 0
IsTame program keys m = Tame (meaning_of program.subroutines) (start program) keys m
