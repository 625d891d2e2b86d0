-- What the machine makes of a command, and of an operation.
use Rattle.std.specs.Prelude.{ℕ, Bool, true, false, List}
use Rattle.machine_io.specs.declared.machine.Moved.{Moved}
use Rattle.vm_tree.specs.declared.command.Operation.{Operation}
use Rattle.vm_machine.specs.State.{Frame, State}
use Rattle.vm_machine.specs.Step.{Outcome, Combination, Unary, Binary, combination_of, fit_outcome}
use Rattle.vm_machine.specs.Moves.{Makes, state_of}
use Rattle.vm_machine.specs.declared.commands.Machine.{Machine}

-- The machine answers to a command, and comes to a state, as the command's outcome says of the state that it was in.
abbrev pub Performs : (State → Frame → List Frame → Outcome) → Machine → Moved → Machine → Type 0
Performs command old answer new =
    Makes (fit_outcome (command (state_of old.stack old.memory) old.stack.top old.stack.below)) (state_of old.stack old.memory) answer (state_of new.stack new.memory)

abbrev pub is_unary : Combination → Bool
is_unary (Unary op) = true
is_unary (Binary op) = false

-- whether an operation takes one value
abbrev pub takes_one : Operation → Bool
takes_one o = is_unary (combination_of o)

abbrev pub combine : Combination → ℕ → ℕ → ℕ
combine (Unary op) x y = op y
combine (Binary op) x y = op x y

-- the word that an operation makes of the two topmost values, x below y, or of y alone
abbrev pub word_of : Operation → ℕ → ℕ → ℕ
word_of o x y = combine (combination_of o) x y
