-- The run of the virtual machine with linked code, and that with the code of a program it follows the program's meaning. (The book, chapters 7 to
-- 11.)
use Rattle.std.specs.Prelude.{◌≡◌, ◌<◌, ◌≤◌, ◌+◌, ℕ, zero, suc, [], Some, Ok, false}
use Rattle.simulation.specs.System.{IsKey, Listening, run_of}
use Rattle.simulation.specs.Trace.{Trace, heard_keys, steps}
use Rattle.simulation.specs.Headline.{Agrees}
use Rattle.machine_io.specs.Driven.{IsDriven}
use Rattle.machine_io.specs.declared.driving.End.{End}
use Rattle.machine_io.specs.declared.driving.End.TheVariants as ends
use Rattle.vm_link.specs.declared.linked.Linked.{Linked}
use Rattle.vm_link.specs.Links.{Links}
use Rattle.vm_machine.specs.State.{State}
use Rattle.vm_machine.specs.Step.{Outcome, Done, Full, Strays, start as vm_start, step}
use Rattle.vm_machine.specs.Level.{state_after}
use Rattle.vm_machine.specs.Loaded.{HasTaken, LoadedVm}
use Rattle.vm_machine.specs.Moves.{state_or}
use Rattle.jack_meaning.specs.Text.{Program}
use Rattle.jack_meaning.specs.Meaning.{start}
use Rattle.jack_meaning.specs.Meaning as meaning
use Rattle.jack_meaning.specs.Level.{meaning_of}
use Rattle.jack_meaning.specs.Gap.{IsGap}
use Rattle.jack_core.specs.declared.program.Core.{Core}
use Rattle.jack_core.specs.Texts.{the_program}
use Rattle.jack_compiler.specs.Files.{files_of}
use Rattle.jack_compiler.specs.Resolved.{IsResolvedCore}
use Rattle.jack_compiler.specs.Runs.{Answers, TameFor, move_word, moves_trace}

-- ---- the run

-- The state before move n, from the start, each move under the key of its number. Where there is no move the state stays.
abbrev pub vm_at : Linked → (ℕ → ℕ) → ℕ → State
vm_at linked keys zero = vm_start
vm_at linked keys (suc n) = state_or (vm_at linked keys n) (step linked (keys n) (vm_at linked keys n))

-- what comes of move n
abbrev pub outcome_at : Linked → (ℕ → ℕ) → ℕ → Outcome
outcome_at linked keys n = step linked (keys n) (vm_at linked keys n)

-- The first n moves are made.
abbrev pub MakesMoves : Linked → (ℕ → ℕ) → ℕ → Type 0
MakesMoves linked keys n = (c : ℕ) → c < n → state_after (outcome_at linked keys c) ≡ Some (vm_at linked keys (suc c))

-- what is counted of the run: the moves that are commits, and the keys heard
abbrev pub vm_trace : Linked → (ℕ → ℕ) → Trace
vm_trace linked keys = moves_trace linked keys (vm_at linked keys)

-- the word at an address before a move
abbrev pub vm_word : Linked → (ℕ → ℕ) → ℕ → ℕ → ℕ
vm_word linked keys = move_word linked keys (vm_at linked keys)

-- How n moves end after m of them: all are made, or what comes of the next one is no move.
abbrev pub VmEnds : Linked → (ℕ → ℕ) → ℕ → ℕ → End → Type 0
VmEnds linked keys n m ends.Bound = m ≡ n
VmEnds linked keys n m (ends.Stray why) = (m < n) × (outcome_at linked keys m ≡ Strays why)
VmEnds linked keys n m (ends.Full words) = (m < n) × (outcome_at linked keys m ≡ Full words)
VmEnds linked keys n m ends.Done = (m < n) × (outcome_at linked keys m ≡ Done)

-- ---- a machine in its run

-- The machine has made its moves, under these keys, of n that were asked for. Its state and its count of commits are those of the run, and so is its
-- end.
pub record HasRun (vm : LoadedVm) (keys : ℕ → ℕ) (n : ℕ) (end : End) : Type 0 where
  pub made : MakesMoves vm.linked keys vm.moves
  pub state : vm.state ≡ vm_at vm.linked keys vm.moves
  pub counted : vm.steps ≡ steps (vm_trace vm.linked keys) vm.moves
  pub ends : VmEnds vm.linked keys n vm.moves end

-- That is where a drive from the start leads.
abbrev pub DrivenLaw : Type 0
DrivenLaw = (keys : ℕ → ℕ) (old new : LoadedVm) (n : ℕ) (end : End) → HasTaken old [] → IsDriven keys (HasTaken old) old.moves n end (HasTaken new) new.moves → HasRun new keys n end

-- ---- the code of a program

-- the linked code of the program's compiled files
abbrev pub IsVmCodeOf : Core → Linked → Type 0
IsVmCodeOf core linked = Links false (files_of core) (Ok linked)

-- the program's meaning is tame for m steps over the keys heard in n moves
abbrev pub IsTameFor : Program → Linked → (ℕ → ℕ) → ℕ → ℕ → Type 0
IsTameFor program linked keys = TameFor program linked keys (vm_at linked keys)

-- What n moves of the virtual machine with this code say of the program's meaning.
pub record VmFollows (program : Program) (linked : Linked) (keys : ℕ → ℕ) (n : ℕ) : Type 0 where
  -- As far as the meaning is tame, the words of heap and screen and the control point are those of the meaning. That is the meaning after as many
  -- steps as there were commits, over the keys heard.
  pub agrees : IsTameFor program linked keys n (steps (vm_trace linked keys) n)
      → Agrees (meaning_of program.subroutines) (start program) (vm_trace linked keys) (vm_word linked keys) n
  -- So far the machine is not full; where it has come to its end, so has the meaning; and where it strays, the meaning strays, at the same address.
  pub answers : IsTameFor program linked keys n (steps (vm_trace linked keys) n)
      → (after : Listening meaning.State) × (run_of (meaning_of program.subroutines) (start program) (heard_keys (vm_trace linked keys) n) (steps (vm_trace linked keys) n) ≡ Some after)
      × Answers program after.state (outcome_at linked keys n)
  -- Where the meaning has one more tame step, the machine has a next move,
  pub moves_on : IsTameFor program linked keys n (suc (steps (vm_trace linked keys) n))
      → (s : State) × (state_after (outcome_at linked keys n) ≡ Some s)
  -- and it makes the next commit, in at most as many moves as the gap of the program has words.
  pub most : ℕ
  pub gap : IsGap program most
  pub goes_on : IsTameFor program linked keys n (suc (steps (vm_trace linked keys) n))
      → (k : ℕ) × (k ≤ most) × MakesMoves linked keys (n + k) × (steps (vm_trace linked keys) n < steps (vm_trace linked keys) (n + k))

-- Where the names of a program are resolved, the virtual machine with its code follows its meaning.
abbrev pub VmLaw : Type 0
VmLaw = (core : Core) (linked : Linked) → IsResolvedCore core → IsVmCodeOf core linked → (keys : ℕ → ℕ) → ((c : ℕ) → IsKey (keys c))
    → (n : ℕ) → MakesMoves linked keys n → VmFollows (the_program core) linked keys n
