-- What the code's devices stand for, what commands do to them, and what is seen of them. (The book, appendix 3.)
use Rattle.std.specs.Prelude.{◌≡◌, ℕ, Bool, true, false, List, Option, Some, None, Result, Ok, Err}
use Rattle.std.specs.declared.alloc.AllocError.{AllocError}
use Rattle.gate_sim.specs.Calls.{Call, evaluated_calls}
use Rattle.hack_machine.specs.Loaded.{machine_of}
use Rattle.script_device.specs.Directory.{FitsNet}
use Rattle.script_device.specs.Driven.{ChipRuns, IsDriven, chip_of}
use Rattle.script_device.specs.Driven as driven
use Rattle.script_device.specs.declared.machine.ScriptMachine.{ScriptMachine}
use Rattle.script_device.specs.declared.machine.Register as code_registers
use Rattle.script_device.specs.declared.machine.Register.TheVariants as code_register
use Rattle.script_device.specs.declared.device.Device as code_devices
use Rattle.script_device.specs.declared.device.Device.TheVariants as code
use Rattle.script_device.specs.Machines.{RunningMachine, Register}
use Rattle.script_device.specs.Machines.Register.{A, D, Pc, Word, Key}
use Rattle.script_device.specs.Devices.{Device, HasRom, Source, CanSet, Denotes, after_set, with_image}
use Rattle.script_device.specs.Devices.Device.{Empty, Chip, Machine}
use Rattle.script_device.specs.Devices.Source.{TheTime, OfChip, OfMachine}
use Rattle.script_device.specs.Variables.Source.{Nodes, BlockWord}
use Rattle.script_device.specs.declared.probe.Probe.{Probe}
use Rattle.script_device.specs.declared.probe.Probe.TheVariants as probes

-- ---- the instruction machine

abbrev pub running_of : ScriptMachine → RunningMachine
running_of m = record { image = m.hack.image; state = machine_of m.hack; key = m.key; cycle = m.cycle; ticked = m.ticked }

abbrev pub register_of : code_registers.Register → Register
register_of code_register.A = A
register_of code_register.D = D
register_of code_register.Pc = Pc
register_of (code_register.Word k) = Word k
register_of code_register.Key = Key

-- ---- devices

-- a chip was evaluated
abbrev pub IsEvaluated : List Call → Type 0
IsEvaluated calls = (told : List Call) × (evaluated_calls calls ≡ Some told)

-- The code's device is this one; what a chip's directory names is there.
abbrev pub Stands : code_devices.Device → Device → Type 0
Stands code.Empty Empty = Unit {0}
Stands (code.Chip c) (Chip chip calls) = (chip ≡ chip_of c) × IsDriven c calls × FitsNet chip.net chip.directory × IsEvaluated calls
Stands (code.Machine m) (Machine machine) = machine ≡ running_of m
Stands code.Empty (Chip chip calls) = ⊥
Stands code.Empty (Machine machine) = ⊥
Stands (code.Chip c) Empty = ⊥
Stands (code.Chip c) (Machine machine) = ⊥
Stands (code.Machine m) Empty = ⊥
Stands (code.Machine m) (Chip chip calls) = ⊥

-- how many cycles or steps are over
abbrev pub steps_of : code_devices.Device → ℕ
steps_of code.Empty = 0
steps_of (code.Chip c) = driven.time_of c
steps_of (code.Machine m) = m.cycle

-- what the text means was set to the word, or it means nothing that can be set, and the device is as it was
abbrev pub TellsSet : Device → code_devices.Device → List ℕ → ℕ → Bool → Type 0
TellsSet device now text word true = (source : Source) × CanSet device text source × Stands now (after_set device source word)
TellsSet device now text word false = ((source : Source) → CanSet device text source → ⊥) × Stands now device

-- the netlist that runs for a chip is simplified, or its own
abbrev pub DeviceRuns : Bool → code_devices.Device → Type 0
DeviceRuns simplify code.Empty = Unit {0}
DeviceRuns simplify (code.Chip c) = ChipRuns simplify c
DeviceRuns simplify (code.Machine m) = Unit {0}

-- it is a chip, and the netlist that runs for it is simplified, or its own
abbrev pub RunsAs : Bool → code_devices.Device → Type 0
RunsAs simplify code.Empty = ⊥
RunsAs simplify (code.Chip c) = ChipRuns simplify c
RunsAs simplify (code.Machine m) = ⊥

-- ---- what is seen

-- what the code's probe stands for
abbrev pub probe_source : Probe → Source
probe_source probes.Time = TheTime
probe_source (probes.Bus nodes) = OfChip (Nodes nodes)
probe_source (probes.Word block address) = OfChip (BlockWord block address)
probe_source (probes.Register register) = OfMachine (register_of register)

-- the text means what the probe stands for, or there is no probe and it means nothing
abbrev pub Finds : Device → List ℕ → Option Probe → Type 0
Finds device text None = (source : Source) → Denotes device text source → ⊥
Finds device text (Some probe) = Denotes device text (probe_source probe)

-- some text means what the probe stands for
abbrev pub CanSee : Device → Probe → Type 0
CanSee device probe = (text : List ℕ) × Denotes device text (probe_source probe)

-- ---- instruction memories

-- there is an instruction memory, or none
abbrev pub TellsMemory : Device → Bool → Type 0
TellsMemory device true = HasRom device
TellsMemory device false = HasRom device → ⊥

-- the image was put into the instruction memory; or there is no such memory, or memory ran out, and the device
-- is as it was
abbrev pub TellsImage : Device → code_devices.Device → List ℕ → Result Bool AllocError → Type 0
TellsImage device now image (Ok true) = (rom : HasRom device) × Stands now (with_image device rom image)
TellsImage device now image (Ok false) = (HasRom device → ⊥) × Stands now device
TellsImage device now image (Err e) = Stands now device
