-- A run that is prepared: a program that is built, its keys, and a machine at its start.
use Rattle.std.specs.Prelude.{◌≡◌, ℕ, List, Option}
use Rattle.outer_world.specs.Files.{Files}
use Rattle.key_script.specs.Codes.{code_at}
use Rattle.simulation.specs.System.{IsKey}
use Rattle.jack_core.specs.declared.program.Core.{Core}
use Rattle.jack_compiler.specs.Resolved.{IsResolvedCore}
use Rattle.command_line.specs.Line.{Source}
use Rattle.command_line.specs.declared.request.RunLevel.{RunLevel}
use Rattle.command_line.specs.declared.request.RunLevel.TheVariants as levels
use Rattle.nand_cli.specs.Commands.Run.{HasKeys}
use Rattle.nand_cli.specs.Inner.Reports.{IsHackAtStart, IsSimpleAtStart, IsVmAtStart, IsWholeAtStart}
use Rattle.nand_cli.specs.JackFolder.{FolderMeans, IsBuilt}
use Rattle.nand_cli.specs.declared.levels.Machine.{Machine}
use Rattle.nand_cli.specs.declared.levels.Machine.TheVariants as machines
use Rattle.nand_cli.specs.declared.commands.run.PreparedRun.{PreparedRun}

-- the level of a machine, with what is shown there
abbrev pub level_of : Machine → RunLevel
level_of (machines.Jack alloc show) = levels.Jack show
level_of (machines.Vm vm show) = levels.Vm show
level_of (machines.Hack h show) = levels.Hack show
level_of (machines.Gates g shown) = levels.Gates shown
level_of (machines.Simplified g show) = levels.Simplified show

-- The machine has the program, and is at its start; that of level jack is not made yet.
abbrev pub IsAtItsStart : Core → Machine → Type 0
IsAtItsStart core (machines.Jack alloc show) = Unit {0}
IsAtItsStart core (machines.Vm vm show) = IsVmAtStart core vm
IsAtItsStart core (machines.Hack h show) = IsHackAtStart core h
IsAtItsStart core (machines.Gates g shown) = IsWholeAtStart core g
IsAtItsStart core (machines.Simplified g show) = IsSimpleAtStart core g

-- It has all the memory that a run wants: each machine but that of level jack.
abbrev pub WantsNoMemory : Machine → Type 0
WantsNoMemory (machines.Jack alloc show) = ⊥
WantsNoMemory _ = Unit {0}

-- All is there that a run needs.
pub record IsReady (run : PreparedRun) : Type 0 where
  pub resolved : IsResolvedCore run.core
  pub words : (c : ℕ) → IsKey (code_at run.keys c)
  pub start : IsAtItsStart run.core run.machine

-- It is the run that a line asks for: of the program that the folder means, under the keys of the script.
pub record IsPrepared (files : Option Files) (source : Source) (level : RunLevel) (cycles : ℕ) (keys : Option (List ℕ)) (run : PreparedRun) : Type 0 where
  pub means : FolderMeans files source run.core
  pub built : IsBuilt run.core
  pub has_keys : HasKeys files keys run.keys
  pub same_level : level_of run.machine ≡ level
  pub same_cycles : run.cycles ≡ cycles
  pub ready : IsReady run
