-- When a chip that is to be loaded is there already.
use Rattle.std.specs.Prelude.{◌≡◌, ℕ, Bool, List, Some, Vec}
use Rattle.std.specs.declared.alloc.Global.{Global}
use Rattle.script_device.specs.Running.{RunsAs}
use Rattle.tst_runner.specs.declared.standing.State.{State}

-- The device is the chip of this file, with the netlist that is to run for it.
pub record IsThere (simplify : Bool) (file : List ℕ) (state : State) : Type 0 where
  pub name : Vec ℕ Global
  pub loaded : state.loaded ≡ Some name
  pub same : name.items ≡ file
  pub runs : RunsAs simplify state.device
