use Rattle.source_files.proofs.Listing.{names_of}
use Rattle.source_files.proofs.folder.names_in.Goals as goal

pub returns-clause-loads : goal.returns-clause-loads
returns-clause-loads g c = names_of _ _ _ _ _ c.in-Names.ensures.names c.in_ok-kept.ensures.moved c.in_ok-kept.ensures.sorted
