-- What the text of a file of VM commands spells, and the diagnostic of a refused one. (The book, chapters 7
-- and 8.)
use Rattle.std.specs.Prelude.{ℕ, Bool, List, [], ◌∷◌, codes}
use Rattle.outer_world.specs.Refusals.{Message}
use Rattle.source_files.specs.Faults.{TellsFault}
use Rattle.source_files.specs.Folder.{stem_of}
use Rattle.vm_tree.specs.declared.program.File.{File}
use Rattle.vm_parser.specs.Trees.{Refuses, Spells}

-- The text of this name spells the file that has the name without `.vm`.
abbrev pub SpellsVmFile : Bool → List ℕ → List ℕ → File → Type 0
SpellsVmFile bare name text file = Spells bare (stem_of (codes ".vm") name) text (file ∷ [])

abbrev pub RefusesVm : Bool → List ℕ → Message → Type 0
RefusesVm bare text told = TellsFault (Refuses bare) text told
