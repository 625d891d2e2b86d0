-- What the text of a Jack file spells, and the diagnostic of a refused one. (The book, chapters 9
-- and 10.)
use Rattle.std.specs.Prelude.{◌≡◌, ℕ, List}
use Rattle.jack_tree.specs.Syntax.{ClassFile}
use Rattle.outer_world.specs.Refusals.{Message}
use Rattle.source_files.specs.Faults.{TellsFault}
use Rattle.jack_parser.specs.Spelled.{SpellsClass}
use Rattle.jack_parser.specs.Spells.{Refuses}

-- The text of the file of this name spells the class.
abbrev pub SpellsFile : List ℕ → List ℕ → ClassFile → Type 0
SpellsFile name text c = SpellsClass text c.class × (c.file ≡ name)

abbrev pub RefusesClass : List ℕ → Message → Type 0
RefusesClass text told = TellsFault Refuses text told
