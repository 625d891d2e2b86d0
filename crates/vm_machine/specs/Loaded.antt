-- The machine with its program, as its callers see it, and its history.
use Rattle.std.specs.Prelude.{◌≡◌, ℕ, ◌+◌, if◌then◌else◌, List, [], ◌∷◌, Option, sum_by}
use Rattle.machine_io.specs.History.{Turn, moves_in}
use Rattle.machine_io.specs.declared.machine.Moved.{Moved}
use Rattle.vm_link.specs.declared.linked.Code.{Code}
use Rattle.vm_link.specs.declared.linked.Linked.{Linked}
use Rattle.vm_machine.specs.State.{State}
use Rattle.vm_machine.specs.Step.{step, start}
use Rattle.vm_machine.specs.Level.{is_commit, next_of}
use Rattle.vm_machine.specs.Moves.{answer_of, state_or}

-- the program, the state, the number of moves made, and how many of them were commits
pub record LoadedVm : Type 0 where
  pub linked : Linked
  pub state : State
  pub moves : ℕ
  pub steps : ℕ

-- A history leads from one state to another: each turn's answer is that of the step under its key, from where the turns before it led.
abbrev pub Leads : Linked → State → List Turn → State → Type 0
Leads l s [] s' = s' ≡ s
Leads l s (t ∷ turns) s' = (t.answer ≡ answer_of (step l t.key s)) × Leads l (state_or s (step l t.key s)) turns s'

-- how many steps of the program's meaning an answer to a command stands for: one where the command is a commit and
-- acts
abbrev pub steps_in : Option Code → Moved → ℕ
steps_in command answer = if is_commit command then moves_in answer else 0

-- how many of them a history makes from a state on
abbrev pub steps_made : Linked → State → List Turn → ℕ
steps_made l s [] = 0
steps_made l s (t ∷ turns) = steps_in (next_of l s.frames) t.answer + steps_made l (state_or s (step l t.key s)) turns

-- The machine stands where this history leads from the start, and has counted its moves and its commits.
pub record HasTaken (vm : LoadedVm) (turns : List Turn) : Type 0 where
  pub state : Leads vm.linked start turns vm.state
  pub moves : vm.moves ≡ sum_by (λ t. moves_in t.answer) turns
  pub steps : vm.steps ≡ steps_made vm.linked start turns
