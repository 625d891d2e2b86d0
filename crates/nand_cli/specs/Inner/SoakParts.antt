-- What the parts of a soak say.
use Rattle.std.specs.Prelude.{◌≡◌, ◌≤◌, ℕ, Some}
use Rattle.vm_link.specs.declared.linked.Linked.{Linked}
use Rattle.vm_machine.specs.Loaded.{LoadedVm}
use Rattle.gate_computer.specs.Followed.{GateMachine, word_in}
use Rattle.tower.specs.VmRun.{MakesMoves, vm_at, vm_trace}
use Rattle.nand_cli.specs.Commands.SoakLevels.{IsJustAfter, View, no_keys}

-- what the computer made of gates shows
abbrev pub view_in : GateMachine → View
view_in g = record { word = word_in g; point = Some g.tally.point }

-- The virtual machine is just after its m-th commit, to which it came in at most this many moves.
pub record IsBehindCommit (vm : LoadedVm) (bound m : ℕ) : Type 0 where
  pub moves : ℕ
  pub few : moves ≤ bound
  pub made : MakesMoves vm.linked no_keys moves
  pub behind : IsJustAfter (vm_trace vm.linked no_keys) m moves
  pub state : vm.state ≡ vm_at vm.linked no_keys moves

-- With this code it never comes there in this many moves.
abbrev pub NeverComes : Linked → ℕ → ℕ → Type 0
NeverComes linked bound m = (k : ℕ) → k ≤ bound → MakesMoves linked no_keys k → IsJustAfter (vm_trace linked no_keys) m k → ⊥
