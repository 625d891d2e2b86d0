-- What the code's loaders give. (The book, chapters 4 and 6, and appendix 3.)
use Rattle.std.specs.Prelude.{◌≡◌, List, [], ◌∷◌, ℕ}
use Rattle.gate_sim.specs.Calls.Call.{Eval}
use Rattle.script_device.specs.declared.chip.DrivenChip.{DrivenChip}
use Rattle.script_device.specs.Directory.{FitsNet}
use Rattle.script_device.specs.Driven.{IsDriven, chip_of}
use Rattle.script_device.specs.declared.device.Device as code
use Rattle.script_device.specs.declared.machine.ScriptMachine.{ScriptMachine}
use Rattle.tst_runner.specs.Setting.{Setting}
use Rattle.tst_runner.specs.Loading.{IsLoaded, IsImage}
use Rattle.script_device.specs.Machines.{loaded_machine}
use Rattle.script_device.specs.Devices.{Device}
use Rattle.script_device.specs.Running.{Stands, running_of}
use Rattle.tst_runner.specs.Inner.States.{IsDevice}

-- the chip of a file, evaluated once
pub record ChipIsLoaded (setting : Setting) (file : List ℕ) (chip : DrivenChip) : Type 0 where
  pub loaded : IsLoaded setting file (chip_of chip)
  pub driven : IsDriven chip (Eval ∷ [])
  pub fits : FitsNet (chip_of chip).net (chip_of chip).directory

-- the instruction machine with the image of a file
abbrev pub MachineIsLoaded : Setting → List ℕ → ScriptMachine → Type 0
MachineIsLoaded setting file machine = (image : List ℕ) × IsImage setting file image × (running_of machine ≡ loaded_machine image)

-- what a file gives
abbrev pub StandsForLoaded : Setting → List ℕ → code.Device → Type 0
StandsForLoaded setting file device = (d : Device) × IsDevice setting file d × Stands device d
