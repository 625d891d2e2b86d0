-- What a script does to a chip that is loaded, as calls of its simulator, the newest first, and what it sees of it. (The book, appendix 3.)
use Rattle.std.specs.Prelude.{◌≡◌, ℕ, suc, Bool, if◌then◌else◌, nat_eq, List, [], ◌∷◌, length, Some}
use Rattle.word16.specs.Words.{has_bit}
use Rattle.netlist.specs.declared.node.Node.{Node}
use Rattle.netlist.specs.Histories.{rank}
use Rattle.netlist.specs.Value.{spelled_number}
use Rattle.gate_sim.specs.Calls.{Call, cycle_of, is_ticked, evaluated_calls}
use Rattle.gate_sim.specs.Calls.Call.{Load, Set}
use Rattle.gate_sim.specs.Values.{AreValues, words_of}
use Rattle.script_columns.specs.declared.layout.Value.{Value}
use Rattle.script_columns.specs.declared.layout.Value.TheVariants.{Time, Wide, Narrow}
use Rattle.script_device.specs.declared.chip.DrivenChip.{DrivenChip}
use Rattle.script_device.specs.Directory.{LoadedChip, loaded_chip, named_of}
use Rattle.script_device.specs.Simulated.{RunsNet, WasTold, net_of}
use Rattle.script_device.specs.Variables.{Source}
use Rattle.script_device.specs.Variables.Source.{Nodes, BlockWord}

-- the nodes of a bus, which are pins of these, are set to the bits of a word from bit k on; a bus takes as many as it has nodes
abbrev pub set_nodes : List Node → ℕ → ℕ → List ℕ → List Call → List Call
set_nodes all k word [] calls = calls
set_nodes all k word (node ∷ nodes) calls = set_nodes all (suc k) word nodes (Set (rank all node) (has_bit word k) ∷ calls)

-- a variable of a chip with these nodes is set to a word
abbrev pub set_source : List Node → Source → ℕ → List Call → List Call
set_source all (Nodes nodes) word calls = set_nodes all 0 word nodes calls
set_source all (BlockWord b a) word calls = Load b a (word ∷ []) ∷ calls

-- what a chip that is driven is: its nodes and blocks, and their names
abbrev pub chip_of : DrivenChip → LoadedChip
chip_of chip = loaded_chip (net_of chip.sim.frame) chip.directory

-- with true a smaller netlist runs for it, in which no node is kept but the pins and what has a name; with false its own
abbrev pub ChipRuns : Bool → DrivenChip → Type 0
ChipRuns simplify chip = RunsNet simplify (named_of chip.directory) chip.sim.frame

-- the cycles that are over
abbrev pub time_of : DrivenChip → ℕ
time_of chip = chip.cycle

-- a chip got these calls: its simulator stands for them, and its time is theirs
pub record IsDriven (chip : DrivenChip) (calls : List Call) : Type 0 where
  pub stands : WasTold chip.sim calls
  pub cycle : chip.cycle ≡ cycle_of calls
  pub ticked : chip.ticked ≡ is_ticked calls

-- the time: the cycles that are over, and whether a tick came after the last of them
abbrev pub time_after : List Call → Value
time_after calls = Time (cycle_of calls) (is_ticked calls)

-- v gives the values of the last evaluation, which came after the calls up to it
pub record Sees (chip : LoadedChip) (calls told : List Call) (v : ℕ → ℕ → Bool) : Type 0 where
  pub last : evaluated_calls calls ≡ Some told
  pub values : AreValues chip.net told v

-- the number of a bus: signed where it has sixteen bits
abbrev pub bus_value : ℕ → ℕ → Value
bus_value bits word = if nat_eq bits 16 then Wide word else Narrow word

-- What is seen of a variable: of a bus what it was at the last evaluation, of a block the word that stands there now.
abbrev pub value_seen : LoadedChip → List Call → List Call → (ℕ → ℕ → Bool) → Source → Value
value_seen chip calls told v (Nodes nodes) = bus_value (length nodes) (spelled_number (λ i. v i (cycle_of told)) nodes)
value_seen chip calls told v (BlockWord b a) = Wide (words_of chip.net.blocks v calls b a)
