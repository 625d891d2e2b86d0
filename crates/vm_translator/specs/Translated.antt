-- The contract between the virtual machine and the computer: what the image of a linked program does. (The book, chapters 7 and 8.)
use Rattle.std.specs.Prelude.{◌≡◌, ◌⊎◌, ℕ, suc, ◌+◌, ◌-◌, ◌<◌, ◌≤◌, true, false, List, length, Option, Some, None}
use Rattle.hack_isa.specs.Machine.{Machine}
use Rattle.hack_isa.specs.Machine as hack
use Rattle.simulation.specs.Layers.{Simulates, Starts}
use Rattle.machine_io.specs.declared.machine.Stray.TheVariants as stray
use Rattle.vm_tree.specs.declared.command.Segment.TheVariants as segment
use Rattle.vm_link.specs.declared.linked.Code.{Code}
use Rattle.vm_link.specs.declared.linked.Step.{Step}
use Rattle.vm_link.specs.declared.linked.Step.TheVariants as step
use Rattle.vm_link.specs.declared.linked.Linked.{Linked}
use Rattle.vm_templates.specs.Budgets.{most_steps}
use Rattle.vm_templates.specs.Computer.{HasLoop}
use Rattle.image_map.specs.Map.{Map}
use Rattle.image_map.specs.Computer.{hack_system}
use Rattle.vm_templates.specs.Going.{Quiet, Reaches, Does, DoesHearing}
use Rattle.vm_machine.specs.State.{State}
use Rattle.vm_machine.specs.Step.{Acts, Strays, start}
use Rattle.vm_machine.specs.Step as vm
use Rattle.vm_machine.specs.Level.{vm_system, vm_cost, next_of}
use Rattle.vm_translator.specs.Related.{StandsFor}
use Rattle.vm_translator.specs.Mapping.{location}

-- a pop to this or that, which alone writes heap or screen
abbrev pub Writes : Step → Type 0
Writes (step.Pop segment.This i) = Unit {0}
Writes (step.Pop segment.That i) = Unit {0}
Writes c = ⊥

abbrev pub IsStore : Option Code → Type 0
IsStore None = ⊥
IsStore (Some c) = Writes c.step

module _ (l : Linked) (image : List ℕ) (map : Map) where
  -- an address with the point of the next command, or one of the part of the image that commands share, which has no point
  abbrev pub IsPlace : State → ℕ → Type 0
  IsPlace v k = (map.points k ≡ (vm_system l).point v) ⊎ ((map.points k ≡ None) × (k < length image))

  -- such an address that is no commit: the computer may be there on the way through the next command
  abbrev pub IsWithin : State → ℕ → Type 0
  IsWithin v k = IsPlace v k × (map.commits k ≡ false)

  -- An address with the point of the start that is no commit: the computer is there on the way to where the virtual machine starts.
  abbrev pub IsOpening : ℕ → Type 0
  IsOpening k = (map.points k ≡ (vm_system l).point start) × (map.commits k ≡ false)

  -- that of the last instruction of the next command: it is a commit where the command is one
  pub record IsLast (v : State) (k : ℕ) : Type 0 where
    pub place : IsPlace v k
    pub commit : map.commits k ≡ (vm_system l).commits v

  -- In at most as many steps as the next command may take, the computer comes to the goal. It comes by quiet steps, and a last one
  -- that reads no key, and writes data only if it may.
  pub record MakesStep (v : State) (may_write : Type 0) (goal : Machine → Type 0) (s : Machine) : Type 0 where
    pub last : ℕ
    pub is_last : IsLast v last
    pub does : Does image (IsWithin v) last may_write goal (vm_cost most_steps l v - 1) s

  -- The same with one step between that reads the key, from which on the goal is that of this key. It writes no data.
  pub record MakesHearing (v : State) (goal : ℕ → Machine → Type 0) (s : Machine) : Type 0 where
    pub last : ℕ
    pub is_last : IsLast v last
    pub before : ℕ
    pub after : ℕ
    pub few : before + suc (suc after) ≤ vm_cost most_steps l v
    pub does : DoesHearing image (IsWithin v) last ⊥ goal before after s

  -- The image and its map, whose endless loop is at this address, do what the linked program does.
  pub record IsTranslated (loop : ℕ) : Type 0 where
    -- at its end the virtual machine makes no step
    pub stops : (v : State) (key : ℕ) → (vm_system l).halted v ≡ true → (vm_system l).step key v ≡ None
    -- The computer's start comes within 16 steps to where the virtual machine starts.
    pub starts : Starts (vm_system l) (hack_system image map loop) (λ s. 1) (StandsFor (location l) l) start 16 hack.start
    -- It comes there by steps at addresses with the start's point, without a commit, a data write or a key read.
    pub opens : Reaches image (Quiet image IsOpening) (StandsFor (location l) l start) 16 hack.start
    -- from where the computer stands for a state, each step of the virtual machine is made, within the steps that its command may take
    pub steps : Simulates (vm_system l) (hack_system image map loop) (λ s. 1) (StandsFor (location l) l) (vm_cost most_steps l)
    -- The endless loop is there.
    pub ends : HasLoop image map loop
    -- A step that hears no key is made without a data write, but for a store's last instruction, and without a key read.
    pub acts : (v v' : State) (s : Machine) → StandsFor (location l) l v s → vm.step l 0 v ≡ Acts false v' → MakesStep v (IsStore (next_of l v.frames)) (StandsFor (location l) l v') s
    -- A step that hears the key is made with one key read, and leads to where this key leads.
    pub hears : (v : State) (s : Machine) → StandsFor (location l) l v s → (v' : State) → vm.step l 0 v ≡ Acts true v'
        → MakesHearing v (λ key t. (u : State) → vm.step l key v ≡ Acts true u → StandsFor (location l) l u t) s
    -- Where the virtual machine goes astray at an address, the computer goes in the same way up to the last instruction, of whose write nothing
    -- is said.
    pub strays : (v : State) (s : Machine) (a : ℕ) → StandsFor (location l) l v s → vm.step l 0 v ≡ Strays (stray.Address a) → MakesStep v (Unit {0}) (λ t. Unit {0}) s
    -- At the end the computer is at the endless loop.
    pub rests : (v : State) (s : Machine) → StandsFor (location l) l v s → (vm_system l).halted v ≡ true → s.pc ≡ loop
