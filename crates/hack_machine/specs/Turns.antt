-- The machine as a level: it acts in each of its turns.
use Rattle.std.specs.Prelude.{◌≡◌, List, map}
use Rattle.std.specs.List.{All}
use Rattle.machine_io.specs.History.{Turn}
use Rattle.machine_io.specs.declared.machine.Moved.TheVariants.{Acted}
use Rattle.hack_machine.specs.Loaded.{LoadedMachine, HasRun}

-- the machine acted in each of these turns, and stands where their keys lead
pub record HasTaken (h : LoadedMachine) (turns : List Turn) : Type 0 where
  pub acted : All (λ t. t.answer ≡ Acted) turns
  pub ran : HasRun h (map (λ t. t.key) turns)
