-- What holds of every program with resolved names and of linked code that is its code.
use Rattle.std.specs.Prelude.{◌≡◌, ◌≤◌, ℕ, ◌+◌, ◌-◌, true, List, ◌∷◌, length}
use Rattle.vm_link.specs.declared.linked.Linked.{Linked}
use Rattle.vm_machine.specs.State.{words_in_use}
use Rattle.vm_machine.specs.State.{Frame as VmFrame, State as VmState}
use Rattle.vm_machine.specs.Step.{start as vm_start}
use Rattle.vm_templates.specs.Budgets.{most_steps}
use Rattle.vm_machine.specs.Level.{vm_system, vm_cost}
use Rattle.simulation.specs.Layers.{Simulates}
use Rattle.jack_meaning.specs.Text.{Program}
use Rattle.jack_meaning.specs.Meaning.{Frame, State, Stray, step, start}
use Rattle.jack_meaning.specs.StackWords.{stack_words}
use Rattle.jack_meaning.specs.Level.{meaning_of}
use Rattle.jack_meaning.specs.Gap.{gap}
use Rattle.jack_compiler.specs.Templates.{Numbers}
use Rattle.jack_compiler.specs.Fits.{IsFit}
use Rattle.jack_compiler.specs.Match.{IsCodeOf, Match}
use Rattle.jack_compiler.specs.Astray.{ComesAstray}

-- the locals that the top frame's first command is still to make
abbrev pub locals_to_make : List Frame → List VmFrame → ℕ
locals_to_make (f ∷ below) (vf ∷ vbelow) = length f.locals - length vf.locals
locals_to_make _ _ = 0

pub record SimulationLaw : Type 0 where
  -- Each step of the meaning is made by commands of the virtual machine, together at most gap - 16 steps of the computer. The last of
  -- them alone is a commit. On the way the point, heap and screen stay those of the meaning. No command is full or finds its value,
  -- argument, local or code missing.
  pub steps : (program : Program) (numbers : Numbers) (linked : Linked) (depth most_locals : ℕ)
      → IsFit program numbers depth most_locals → IsCodeOf program numbers linked
      → Simulates (meaning_of program.subroutines) (vm_system linked) (vm_cost most_steps linked) (Match program numbers linked depth) (λ s. gap depth most_locals - 16)
  -- where the meaning strays, the virtual machine goes on such a way to a commit that strays at the same address
  pub strays : (program : Program) (numbers : Numbers) (linked : Linked) (depth most_locals : ℕ)
      → IsFit program numbers depth most_locals → IsCodeOf program numbers linked
      → (s : State) (v : VmState) (key a : ℕ) → Match program numbers linked depth s v → (meaning_of program.subroutines).fits s ≡ true → step program.subroutines key s ≡ Stray a
      → ComesAstray program.subroutines linked s a (gap depth most_locals - 16) v
  -- the virtual machine's stack has no more words than the meaning's
  pub words : (program : Program) (numbers : Numbers) (linked : Linked) (depth : ℕ) (s : State)
      (v : VmState) → Match program numbers linked depth s v
      → words_in_use v.frames ≤ stack_words s.frames
  -- and no fewer, but for locals that are still to be made and one word of each frame
  pub words_back : (program : Program) (numbers : Numbers) (linked : Linked) (depth most_locals : ℕ)
      → IsFit program numbers depth most_locals
      → (s : State) (v : VmState) → Match program numbers linked depth s v
      → stack_words s.frames ≤ words_in_use v.frames + locals_to_make s.frames v.frames + length s.frames
  -- the starts match
  pub starts : (program : Program) (numbers : Numbers) (linked : Linked) (depth most_locals : ℕ)
      → IsFit program numbers depth most_locals → IsCodeOf program numbers linked
      → Match program numbers linked depth (start program) vm_start
