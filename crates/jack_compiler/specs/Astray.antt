-- The virtual machine comes to a load or store outside the memory, as the meaning does.
use Rattle.std.specs.Prelude.{◌≡◌, ℕ, List, []}
use Rattle.machine_io.specs.declared.machine.Stray.TheVariants as stray
use Rattle.simulation.specs.Layers.{GoesAstray, Along}
use Rattle.vm_link.specs.declared.linked.Linked.{Linked}
use Rattle.vm_machine.specs.State.{State as VmState}
use Rattle.vm_machine.specs.Step.{Strays}
use Rattle.vm_machine.specs.Step.{step as vm_step}
use Rattle.vm_templates.specs.Budgets.{most_steps}
use Rattle.vm_machine.specs.Level.{vm_system, vm_cost}
use Rattle.jack_meaning.specs.Text.{Subroutine}
use Rattle.jack_meaning.specs.Meaning.{State}
use Rattle.jack_meaning.specs.Level.{meaning_of}

module _ (subs : List Subroutine) (linked : Linked) (s : State) (a : ℕ) where
  -- Both go astray, the virtual machine at this address, and no key has been heard.
  pub record StraysAt (pend : List ℕ) (v : VmState) : Type 0 where
    pub astray : GoesAstray (meaning_of subs) (vm_system linked) s v
    pub unheard : pend ≡ []
    pub address : (key : ℕ) → vm_step linked key v ≡ Strays (stray.Address a)

  -- Within this many steps of the computer the virtual machine comes by quiet commands to one that goes astray at this
  -- address.
  abbrev pub ComesAstray : ℕ → VmState → Type 0
  ComesAstray n v = Along (meaning_of subs) (vm_system linked) (vm_cost most_steps linked) s StraysAt n [] v
