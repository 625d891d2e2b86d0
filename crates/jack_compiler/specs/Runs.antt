-- What a run of the virtual machine over the code of a program says of the program's meaning.
use Rattle.std.specs.Prelude.{◌≡◌, ◌<◌, ◌≤◌, ℕ, suc, ◌+◌, Some}
use Rattle.simulation.specs.System.{IsKey, Listening, run_of, Tame}
use Rattle.simulation.specs.Trace.{Trace, steps, heard_keys, trace_of}
use Rattle.simulation.specs.Headline.{Agrees}
use Rattle.machine_io.specs.declared.machine.Stray.TheVariants as stray
use Rattle.vm_link.specs.declared.linked.Linked.{Linked}
use Rattle.vm_machine.specs.State.{State as VmState}
use Rattle.vm_machine.specs.Step.{Outcome as VmOutcome, Acts as VmActs, Strays as VmStrays, Full as VmFull, Done as VmDone, start as vm_start, step as vm_step}
use Rattle.vm_machine.specs.Level.{vm_system}
use Rattle.jack_meaning.specs.Text.{Program}
use Rattle.jack_meaning.specs.Meaning.{State, Stray, Done, start, step}
use Rattle.jack_meaning.specs.Level.{meaning_of}
use Rattle.jack_meaning.specs.Gap.{gap}
use Rattle.jack_compiler.specs.Templates.{Numbers}
use Rattle.jack_compiler.specs.Fits.{IsFit}
use Rattle.jack_compiler.specs.Match.{IsCodeOf}

module _ (linked : Linked) (keys : ℕ → ℕ) (state : ℕ → VmState) where
  -- The machine makes n moves from its start, each under the key of its number: before move c it is in state c.
  pub record Moves (n : ℕ) : Type 0 where
    pub begins : state 0 ≡ vm_start
    pub key_words : (c : ℕ) → IsKey (keys c)
    pub moves : (c : ℕ) → c < n → (vm_system linked).step (keys c) (state c) ≡ Some (state (suc c))

  -- As long as there is a next move it is made.
  abbrev pub GoesOn : Type 0
  GoesOn = (c : ℕ) (v : VmState) → (vm_system linked).step (keys c) (state c) ≡ Some v → state (suc c) ≡ v

  -- what is counted of the moves: the commits, and the keys heard
  abbrev pub moves_trace : Trace
  moves_trace = trace_of (vm_system linked) keys state

  -- the word at an address before a move
  abbrev pub move_word : ℕ → ℕ → ℕ
  move_word c = (vm_system linked).word (state c)

-- The meaning of a program is tame for m steps from its start over the keys heard in n moves.
abbrev pub TameFor : Program → Linked → (ℕ → ℕ) → (ℕ → VmState) → ℕ → ℕ → Type 0
TameFor program linked keys state n m = Tame (meaning_of program.subroutines) (start program) (heard_keys (moves_trace linked keys state) n) m

-- what the machine's next outcome says of a state of the meaning
abbrev pub Answers : Program → State → VmOutcome → Type 0
Answers program s (VmActs heard_keys v) = Unit {0}
Answers program s (VmStrays why) = (a : ℕ) × (why ≡ stray.Address a) × ((key : ℕ) → step program.subroutines key s ≡ Stray a)
Answers program s (VmFull words) = ⊥
Answers program s VmDone = (key : ℕ) → step program.subroutines key s ≡ Done

-- Of a machine that runs the code of a program, after n moves.
pub record VmRunLaw : Type 0 where
  -- Heap and screen and the point are those of the meaning after as many steps as there were commits, over the keys heard, as far as that is tame.
  pub agrees : (program : Program) (numbers : Numbers) (linked : Linked) (depth most_locals : ℕ)
      → IsFit program numbers depth most_locals → IsCodeOf program numbers linked
      → (keys : ℕ → ℕ) (state : ℕ → VmState) (n : ℕ) → Moves linked keys state n → TameFor program linked keys state n (steps (moves_trace linked keys state) n)
      → Agrees (meaning_of program.subroutines) (start program) (moves_trace linked keys state) (move_word linked keys state) n
  -- where the meaning has one more tame step, the machine has a next move, and
  pub moves_on : (program : Program) (numbers : Numbers) (linked : Linked) (depth most_locals : ℕ)
      → IsFit program numbers depth most_locals → IsCodeOf program numbers linked
      → (keys : ℕ → ℕ) (state : ℕ → VmState) (n : ℕ) → Moves linked keys state n → TameFor program linked keys state n (suc (steps (moves_trace linked keys state) n))
      → (v : VmState) × ((vm_system linked).step (keys n) (state n) ≡ Some v)
  -- if it makes each move that there is, it makes the next commit, in at most as many moves as the gap
  pub goes_on : (program : Program) (numbers : Numbers) (linked : Linked) (depth most_locals : ℕ)
      → IsFit program numbers depth most_locals → IsCodeOf program numbers linked
      → (keys : ℕ → ℕ) (state : ℕ → VmState) (n : ℕ) → GoesOn linked keys state → Moves linked keys state n → TameFor program linked keys state n (suc (steps (moves_trace linked keys state) n))
      → (k : ℕ) × (k ≤ gap depth most_locals) × Moves linked keys state (n + k) × (steps (moves_trace linked keys state) n < steps (moves_trace linked keys state) (n + k))
  -- It is never full. Where it has come to its end, so has the meaning; and where it strays, the meaning strays, at the same address.
  pub answers : (program : Program) (numbers : Numbers) (linked : Linked) (depth most_locals : ℕ)
      → IsFit program numbers depth most_locals → IsCodeOf program numbers linked
      → (keys : ℕ → ℕ) (state : ℕ → VmState) (n : ℕ) → Moves linked keys state n → TameFor program linked keys state n (steps (moves_trace linked keys state) n)
      → (after : Listening State) × (run_of (meaning_of program.subroutines) (start program) (heard_keys (moves_trace linked keys state) n) (steps (moves_trace linked keys state) n) ≡ Some after)
      × Answers program after.state (vm_step linked (keys n) (state n))
