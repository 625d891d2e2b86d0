-- The diagnostic of a refused text of a chip. (The book, chapter 1 and appendix 2.)
use Rattle.std.specs.Prelude.{ℕ, List}
use Rattle.outer_world.specs.Refusals.{Message}
use Rattle.source_files.specs.Faults.{TellsFault}
use Rattle.hdl_parser.specs.Spells.{Refuses}

abbrev pub RefusesHdl : List ℕ → Message → Type 0
RefusesHdl text told = TellsFault Refuses text told
