-- The relation between states of the virtual machine and of the computer. (The book, chapters 7 and 8.)
use Rattle.std.specs.Prelude.{◌≡◌, ℕ, Option}
use Rattle.hack_isa.specs.Machine.{Machine}
use Rattle.vm_templates.specs.Effects.{HasWords}
use Rattle.vm_link.specs.declared.linked.Linked.{Linked}
use Rattle.vm_machine.specs.State.{State}
use Rattle.vm_machine.specs.Sound.{IsSoundState}
use Rattle.vm_translator.specs.Stands.{SameMemory}
use Rattle.vm_translator.specs.Carries.{place_of}

-- The memory holds a sound state, all words are words, and the computer is where the innermost frame goes on.
pub record StandsFor (address : Option ℕ → ℕ → ℕ) (l : Linked) (v : State) (s : Machine) : Type 0 where
  pub memory : SameMemory address v s.memory
  pub words : HasWords s
  pub sound : IsSoundState l v
  pub pc : s.pc ≡ place_of address v.frames
