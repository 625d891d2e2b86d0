-- Laws of the templates, of an image that holds them, of the start and of the endless loop.
use Rattle.std.specs.Prelude.{◌≡◌, ◌≢◌, ℕ, ◌+◌, ◌<◌, ◌≤◌, List, ◌++◌, length, map, All, slice_index, Option, None, Some}
use Rattle.hack_isa.specs.Table.{WellFormed, word_of}
use Rattle.hack_isa.specs.Machine.{Machine, start, image_words}
use Rattle.hack_isa.specs.declared.Instr.{Instr}
use Rattle.simulation.specs.System.{IdlesAtEnd}
use Rattle.vm_templates.specs.declared.shape.Shape.{Shape}
use Rattle.vm_templates.specs.declared.shape.Shape.TheVariants.{PopWord, Call}
use Rattle.vm_templates.specs.declared.routines.Routine.{Routine}
use Rattle.vm_templates.specs.declared.routines.Routines.{Routines}
use Rattle.vm_templates.specs.Templates.{template, size, routine_code, routine_size, routine_at, routine_of, start_code, endless, start_size}
use Rattle.image_map.specs.Computer.{endless_loop, hack_system}
use Rattle.vm_templates.specs.Computer.{Stands, HasLoop}
use Rattle.image_map.specs.Map.{Map}
use Rattle.vm_templates.specs.Going.{Quiet, Reaches}
use Rattle.vm_templates.specs.Effects.{HasWords}
use Rattle.vm_templates.specs.Commands.{IsShape}

-- The routine that a command goes through has an address.
abbrev pub IsFound : Routines → Option Routine → Type 0
IsFound at None = Unit {0}
IsFound at (Some r) = routine_at at r < image_words

-- The instructions of a command are as many as is said, at least one, and each has a word.
pub record TemplatesFit : Type 0 where
  pub number : (at : Routines) (here : ℕ) (c : Shape) → length (template at here c) ≡ size c
  pub some : (c : Shape) → 1 ≤ size c
  pub well_formed : (at : Routines) (here : ℕ) (c : Shape) → IsShape c → IsFound at (routine_of c)
      → here + size c ≤ image_words → All WellFormed (template at here c)
  pub routine_number : (r : Routine) (at : ℕ) → length (routine_code r at) ≡ routine_size r
  pub routine_well_formed : (r : Routine) (at : ℕ) → at + routine_size r ≤ image_words
      → All WellFormed (routine_code r at)
  pub start_number : (at : Routines) (entry : ℕ) → length (start_code at entry) ≡ start_size
  pub start_well_formed : (at : Routines) (entry : ℕ) → entry < image_words → at.call < image_words
      → All WellFormed (start_code at entry)

-- Instructions whose words are an image stand in it, and so do their parts.
pub record InstructionsStand : Type 0 where
  pub all : (instrs : List Instr) → All WellFormed instrs → Stands (map word_of instrs) 0 instrs
  pub words : (instrs : List Instr) → All WellFormed instrs → (k : ℕ)
      → slice_index (map word_of instrs) k < 65536
  pub parts : (image : List ℕ) (here : ℕ) (a b : List Instr) → Stands image here (a ++ b)
      → Stands image here a × Stands image (here + length a) b

-- before the call of Sys.init: the stack is empty, and all else is 0
pub record IsSet (s : Machine) : Type 0 where
  pub pc : s.pc ≡ 4
  pub sp : s.memory 0 ≡ 256
  pub zeros : (k : ℕ) → k ≢ 0 → s.memory k ≡ 0
  pub words : HasWords s

-- The start comes in four quiet steps to `call Sys.init 0`. After it stand `pop temp 0` and the endless loop.
pub record Starts : Type 0 where
  pub sets : (image : List ℕ) (at : Routines) (entry : ℕ) → Stands image 0 (start_code at entry)
      → Reaches image (Quiet image (λ k. k < 4)) IsSet 4 start
  pub stands : (image : List ℕ) (at : Routines) (entry : ℕ) → Stands image 0 (start_code at entry)
      → Stands image 4 (template at 4 (Call entry 0)) × Stands image 16 (template at 16 (PopWord 5))
      × Stands image endless_loop (endless endless_loop)

-- In its endless loop the computer does nothing that can be seen.
abbrev pub LoopsIdle : Type 0
LoopsIdle = (image : List ℕ) (map : Map) (loop : ℕ) → HasLoop image map loop → IdlesAtEnd (hack_system image map loop)
