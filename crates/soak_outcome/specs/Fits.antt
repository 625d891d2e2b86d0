-- The image of a generated program has room in the computer (book, chapters 7 to 12).
use Rattle.std.specs.Prelude.{ℕ, false, List}
use Rattle.jack_tree.specs.Syntax.{Class}
use Rattle.jack_parser.specs.Spelled.{SpellsClass}
use Rattle.jack_core.specs.declared.program.Core.{Core}
use Rattle.tower.specs.Existence.{FilesMean}
use Rattle.tower.specs.Image.{IsNotBuilt, LargeImage}
use Rattle.soak_program.specs.Generator.{IsProgramText}
use Rattle.soak_laws.specs.Named.{folder_of}

-- It is never too large.
abbrev pub FitsLaw : Type 0
FitsLaw = (s t : ℕ) (text : List ℕ) (c : Class) (core : Core) (w : ℕ) → IsProgramText s text t → SpellsClass text c → FilesMean false (folder_of c) core → IsNotBuilt core (LargeImage w) → ⊥
