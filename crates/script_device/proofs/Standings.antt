-- What stands where the code's device stands.
use Rattle.std.proofs.Common.{◌≡◌, ℕ, suc, List, [], ◌∷◌, refl, sym, subst, ◌∙◌}
use Rattle.std.specs.Prelude.{Option, Some, MatchOption}
use Rattle.word16.specs.Words.{has_bit}
use Rattle.gate_sim.specs.Calls.{Call, evaluated_calls}
use Rattle.gate_sim.specs.Calls.Call.{Set}
use Rattle.script_device.specs.declared.chip.DrivenChip.{DrivenChip}
use Rattle.netlist.specs.declared.node.Node.{Node}
use Rattle.netlist.specs.Histories.{rank}
use Rattle.netlist.specs.Net.{Net}
use Rattle.script_device.specs.declared.directory.Directory.{Directory}
use Rattle.script_device.specs.Directory.{AreSizes, FitsNet, LoadedChip, loaded_chip}
use Rattle.script_device.specs.Driven.{IsDriven, chip_of, set_nodes, set_source}
use Rattle.script_device.specs.Variables as chips
use Rattle.script_device.specs.Variables.Source.{Nodes, BlockWord}
use Rattle.script_device.specs.declared.machine.ScriptMachine.{ScriptMachine}
use Rattle.script_device.specs.declared.device.Device.TheVariants as held
use Rattle.script_device.specs.declared.variables.Variable.{Variable}
use Rattle.script_device.specs.Devices.{Device, Source, Denotes, CanSet}
use Rattle.script_device.specs.Devices.Device.{Empty, Chip, Machine}
use Rattle.script_device.specs.Running.{IsEvaluated, Stands, running_of}
use Rattle.script_device.specs.Inner.Sources.{source_of}

-- ---- what holds of the device that a code's device stands for

pub on_empty : (P : Device → Type 0) → P Empty → (d : Device) → Stands held.Empty d → P d
on_empty P h Empty s = h
on_empty P h (Chip chip calls) s = absurd s
on_empty P h (Machine machine) s = absurd s

pub on_chip : (c : DrivenChip) (P : Device → Type 0) → ((calls : List Call) → IsDriven c calls → FitsNet (chip_of c).net (chip_of c).directory → IsEvaluated calls → P (Chip (chip_of c) calls)) → (d : Device) → Stands (held.Chip c) d → P d
on_chip c P h Empty s = absurd s
on_chip c P h (Chip chip calls) s = subst (λ x. P (Chip x calls)) (sym s.0) (h calls s.1 (subst (λ x. FitsNet x.net x.directory) s.0 s.2) s.3)
on_chip c P h (Machine machine) s = absurd s

pub on_machine : (m : ScriptMachine) (P : Device → Type 0) → P (Machine (running_of m)) → (d : Device) → Stands (held.Machine m) d → P d
on_machine m P h Empty s = absurd s
on_machine m P h (Chip chip calls) s = absurd s
on_machine m P h (Machine machine) s = subst (λ x. P (Machine x)) (sym s) h

-- ---- what is found

abbrev pub FoundIn : LoadedChip → List Call → List ℕ → Option Variable → Type 0
FoundIn chip calls text found = MatchOption found ((source : Source) → Denotes (Chip chip calls) text source → ⊥) (λ v. Denotes (Chip chip calls) text (source_of v))

abbrev pub SettableIn : LoadedChip → List Call → List ℕ → Option Variable → Type 0
SettableIn chip calls text found = MatchOption found ((source : Source) → CanSet (Chip chip calls) text source → ⊥) (λ v. CanSet (Chip chip calls) text (source_of v))

-- what the code finds for its directory and sizes
pub found_in : (chip : LoadedChip) (d : Directory) (sizes : List ℕ) (calls : List Call) (text : List ℕ) (found : Option Variable) → d ≡ chip.directory → AreSizes sizes chip.net → ((net : Net) (calls : List Call) → AreSizes sizes net → FoundIn (loaded_chip net d) calls text found) → FoundIn chip calls text found
found_in chip d sizes calls text found e s h = subst (λ x. FoundIn (loaded_chip chip.net x) calls text found) e (h chip.net calls s)

pub settable_in : (chip : LoadedChip) (d : Directory) (sizes : List ℕ) (calls : List Call) (text : List ℕ) (found : Option Variable) → d ≡ chip.directory → AreSizes sizes chip.net → ((net : Net) (calls : List Call) → AreSizes sizes net → SettableIn (loaded_chip net d) calls text found) → SettableIn chip calls text found
settable_in chip d sizes calls text found e s h = subst (λ x. SettableIn (loaded_chip chip.net x) calls text found) e (h chip.net calls s)

pub settable_as : (chip : LoadedChip) (calls : List Call) (text : List ℕ) (found : Option Variable) (x v : Variable) → found ≡ Some x → x ≡ v → SettableIn chip calls text found → CanSet (Chip chip calls) text (source_of v)
settable_as chip calls text found x v e f h = subst (λ y. CanSet (Chip chip calls) text (source_of y)) f (subst (SettableIn chip calls text) e h)

-- ---- setting keeps that a chip was evaluated

nodes_evaluated : (all : List Node) (k word : ℕ) (nodes : List ℕ) (calls : List Call) → evaluated_calls (set_nodes all k word nodes calls) ≡ evaluated_calls calls
nodes_evaluated all k word [] calls = refl
nodes_evaluated all k word (node ∷ nodes) calls = nodes_evaluated all (suc k) word nodes (Set (rank all node) (has_bit word k) ∷ calls)

pub still_evaluated : (all : List Node) (source : chips.Source) (word : ℕ) (calls : List Call) → IsEvaluated calls → IsEvaluated (set_source all source word calls)
still_evaluated all (Nodes nodes) word calls e = (e.0, nodes_evaluated all 0 word nodes calls ∙ e.1)
still_evaluated all (BlockWord b a) word calls e = e
