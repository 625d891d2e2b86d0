-- The command `show`: the printed form of a source, a VM text, a Jack class or a chip, or why the source is refused.
-- (The book, chapters 1, 7, 8 and 10, and appendix 2.)
use Rattle.std.specs.Prelude.{◌≡◌, ℕ, true, List, [], Option}
use Rattle.outer_world.specs.Files.{Files}
use Rattle.outer_world.specs.Refusals.{Message}
use Rattle.source_files.specs.Sources.{IsFaulty, SpellsAt}
use Rattle.vm_tree.specs.Printed.{program_text}
use Rattle.vm_tree.specs.declared.program.File.{File}
use Rattle.vm_parser.specs.Trees.{Spells as SpellsProgram}
use Rattle.hdl_tree.specs.declared.tree.Chip.{Chip}
use Rattle.hdl_parser.specs.Printed.{chip_text}
use Rattle.hdl_parser.specs.Spells.{Spells as SpellsChip}
use Rattle.jack_tree.specs.Syntax.{Class}
use Rattle.jack_parser.specs.Spelled.{SpellsClass}
use Rattle.jack_parser.specs.PrintedClass.{printed_class}
use Rattle.command_line.specs.declared.request.SourceKind.{SourceKind}
use Rattle.command_line.specs.declared.request.SourceKind.TheVariants as kinds
use Rattle.hdl_parser.specs.Language.{RefusesHdl}
use Rattle.jack_parser.specs.Language.{RefusesClass}
use Rattle.vm_parser.specs.Language.{RefusesVm}

-- A VM text spells the program of one file, in which commands may stand before the first function. The file has no
-- name here, since the printed form has none in it.
abbrev pub SpellsVm : List ℕ → List File → Type 0
SpellsVm text program = SpellsProgram true [] text program

-- The text at a path spells a source of its kind, and this is the printed form. (The name of a class is not held
-- against that of the file.)
abbrev pub ShowPrints : Option Files → List ℕ → SourceKind → List ℕ → Type 0
ShowPrints files path kinds.Vm out = (program : List File) × SpellsAt SpellsVm files path program × (out ≡ program_text program)
ShowPrints files path kinds.Jack out = (c : Class) × SpellsAt SpellsClass files path c × (out ≡ printed_class c)
ShowPrints files path kinds.Hdl out = (c : Chip) × SpellsAt SpellsChip files path c × (out ≡ chip_text c)

-- a text of this kind is refused
abbrev pub RefusesKind : SourceKind → List ℕ → Message → Type 0
RefusesKind kinds.Vm text told = RefusesVm true text told
RefusesKind kinds.Jack text told = RefusesClass text told
RefusesKind kinds.Hdl text told = RefusesHdl text told

-- The source at a path is refused, and this line says why.
abbrev pub ShowRefuses : Option Files → List ℕ → SourceKind → List ℕ → Type 0
ShowRefuses files path kind line = IsFaulty (RefusesKind kind) files path line
