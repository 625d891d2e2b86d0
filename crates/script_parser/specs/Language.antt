-- The diagnostic of a refused test script. (The book, appendix 3.)
use Rattle.std.specs.Prelude.{ℕ, List}
use Rattle.outer_world.specs.Refusals.{Message}
use Rattle.source_files.specs.Faults.{TellsFault}
use Rattle.script_parser.specs.Trees.{Refuses}

abbrev pub RefusesScript : List ℕ → Message → Type 0
RefusesScript text told = TellsFault Refuses text told
