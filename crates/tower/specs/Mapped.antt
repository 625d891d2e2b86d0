-- The computer with its image and what is counted of its run, as its callers see it, and its history. (The book, chapters 4 and 5.)
use Rattle.std.specs.Prelude.{◌≡◌, ◌≤◌, ℕ, List, Some, length}
use Rattle.std.specs.List.{All}
use Rattle.machine_io.specs.History.{Turn}
use Rattle.machine_io.specs.declared.machine.Moved.TheVariants.{Acted}
use Rattle.hack_isa.specs.Machine.{machine_at}
use Rattle.hack_machine.specs.Loaded.{LoadedMachine, machine_of}
use Rattle.simulation.specs.Trace.{Trace, steps, point_at}
use Rattle.image_map.specs.declared.map.Image.{Image}
use Rattle.image_map.specs.Map.{the_map}
use Rattle.image_map.specs.Computer.{run_trace}
use Rattle.image_map.specs.Tallies.{TallyState}
use Rattle.image_map.specs.Turns.{HoldsKeys}

-- the machine with its image, and the tally of its run by the map of that image
pub record MappedMachine : Type 0 where
  pub hack : LoadedMachine
  pub tally : TallyState

-- what runs: the image with its map
abbrev pub image_in : MappedMachine → Image
image_in h = record { words = h.hack.image; map = h.tally.map }

-- what its map counts of the run of its image under these keys
abbrev pub trace_in : MappedMachine → (ℕ → ℕ) → Trace
trace_in h = run_trace h.hack.image (the_map h.tally.map)

-- The tally is where the machine is, and no more steps were counted than moves made.
pub record IsKeptWell (hack : LoadedMachine) (tally : TallyState) : Type 0 where
  pub at : tally.at ≡ hack.pc
  pub few : tally.steps ≤ hack.moves

-- The machine is at cycle n of the run of its image and map under these keys, and its steps and its point are those of the run.
pub record StandsAt (h : MappedMachine) (keys : ℕ → ℕ) (n : ℕ) : Type 0 where
  pub machine : machine_of h.hack ≡ machine_at h.hack.image keys n
  pub moves : h.hack.moves ≡ n
  pub counted : h.tally.steps ≡ steps (trace_in h keys) n
  pub seen : point_at (trace_in h keys) n ≡ Some h.tally.point

-- It acted in each of these turns, and is where their keys lead.
pub record HasFollowed (h : MappedMachine) (turns : List Turn) : Type 0 where
  pub acted : All (λ t. t.answer ≡ Acted) turns
  pub stands : (keys : ℕ → ℕ) → HoldsKeys keys 0 turns → StandsAt h keys (length turns)
