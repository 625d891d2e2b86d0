use Rattle.std.proofs.Common.{take}
use Rattle.outer_world.specs.Files.{IsListing}
use Rattle.outer_world.specs.Plans.{files_of}
use Rattle.outer_world.proofs.folder.names_in.Given as goal

abbrev pub invariant-loop-file : goal.invariant-loop-file
invariant-loop-file l = IsListing (files_of (take l.file-index l.files)) l.folder l.names.items
