-- The virtual machine as a machine that moves in steps.
use Rattle.std.specs.Prelude.{ℕ, ◌-◌, Bool, true, false, List, [], ◌∷◌, Option, Some, None, slice_get, slice_index}
use Rattle.word16.specs.Memory.{heap}
use Rattle.outer_world.specs.declared.point.Point.{Point}
use Rattle.simulation.specs.System.{System}
use Rattle.machine_io.specs.declared.machine.Stray.TheVariants as stray
use Rattle.vm_link.specs.declared.linked.Step.{Step}
use Rattle.vm_link.specs.declared.linked.Code.{Code}
use Rattle.vm_link.specs.declared.linked.LinkedFunction.{LinkedFunction}
use Rattle.vm_link.specs.declared.linked.Linked.{Linked}
use Rattle.vm_machine.specs.State.{Frame, State}
use Rattle.vm_machine.specs.Step.{Outcome, Acts, Strays, Full, Done, code_in, step}

-- the next command of the innermost frame, where one is left
abbrev pub next_of : Linked → List Frame → Option Code
next_of l [] = None
next_of l (f ∷ below) = slice_get (code_in l f.function) f.place

-- the state after a step, where one is made
abbrev pub state_after : Outcome → Option State
state_after (Acts heard s) = Some s
state_after (Strays why) = None
state_after (Full w) = None
state_after Done = None

-- whether a step hears the key
abbrev pub has_heard : Outcome → Bool
has_heard (Acts heard s) = heard
has_heard (Strays why) = false
has_heard (Full w) = false
has_heard Done = false

-- whether `start` has no command left
abbrev pub is_done : Outcome → Bool
is_done (Acts heard s) = false
is_done (Strays why) = false
is_done (Full w) = false
is_done Done = true

-- whether the next step finds its values, its argument or local, its command, and room on the stack
abbrev pub is_fit : Outcome → Bool
is_fit (Acts heard s) = true
is_fit (Strays (stray.Address a)) = true
is_fit (Strays _) = false
is_fit (Full w) = false
is_fit Done = true

-- whether a command ends a step of the program's meaning
abbrev pub is_commit : Option Code → Bool
is_commit None = false
is_commit (Some c) = c.commit

abbrev pub number_of : Option LinkedFunction → ℕ
number_of None = 0
number_of (Some f) = f.number

-- the number of a subroutine; `start` has 0
abbrev pub subroutine_of : Linked → Option ℕ → ℕ
subroutine_of l None = 0
subroutine_of l (Some k) = number_of (slice_get l.functions k)

-- the statement of the last command, or 0
abbrev pub last_statement : List Code → ℕ
last_statement [] = 0
last_statement (c ∷ []) = c.statement
last_statement (c ∷ d ∷ code) = last_statement (d ∷ code)

-- Where no command is left: `start` is at 2, and a function where its last command was.
abbrev pub end_statement : Linked → Option ℕ → ℕ
end_statement l None = 2
end_statement l (Some k) = last_statement (code_in l (Some k))

abbrev pub statement_of : ℕ → Option Code → ℕ
statement_of otherwise None = otherwise
statement_of otherwise (Some c) = c.statement

-- The control point: the innermost frame's subroutine, and the statement of its next command.
abbrev pub point_of : Linked → List Frame → Point
point_of l [] = record { sub = 0; number = 2 }
point_of l (f ∷ below) = record {
  sub = subroutine_of l f.function;
  number = statement_of (end_statement l f.function) (slice_get (code_in l f.function) f.place);
}

-- Whether a step hears the key, and whether there is a step or why not, is the same under every key, so it is asked of
-- key 0.
abbrev pub vm_system : Linked → System State
vm_system l = record {
  step = λ key s. state_after (step l key s);
  commits = λ s. is_commit (next_of l s.frames);
  hears = λ s. has_heard (step l 0 s);
  halted = λ s. is_done (step l 0 s);
  fits = λ s. is_fit (step l 0 s);
  point = λ s. Some (point_of l s.frames);
  word = λ s a. slice_index s.words (a - heap);
}

-- The price of the next command, where each command has one; a machine that has come to its end pays 1. The prices are those of the computer
-- that the machine is made on, in its steps.
abbrev pub cost_of : (Step → ℕ) → Option Code → ℕ
cost_of price None = 1
cost_of price (Some c) = price c.step

abbrev pub vm_cost : (Step → ℕ) → Linked → State → ℕ
vm_cost price l s = cost_of price (next_of l s.frames)
