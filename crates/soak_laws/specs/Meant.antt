-- Each generated text means a program (book, chapters 9 to 12).
use Rattle.std.specs.Prelude.{ℕ, false, List}
use Rattle.jack_tree.specs.Syntax.{Class}
use Rattle.jack_parser.specs.Spelled.{SpellsClass}
use Rattle.jack_core.specs.declared.program.Core.{Core}
use Rattle.tower.specs.Existence.{FilesMean}
use Rattle.soak_program.specs.Generator.{IsProgramText}
use Rattle.soak_laws.specs.Named.{folder_of}

abbrev pub MeantLaw : Type 0
MeantLaw = (s t : ℕ) (text : List ℕ) (c : Class) → IsProgramText s text t → SpellsClass text c → (core : Core) × FilesMean false (folder_of c) core
