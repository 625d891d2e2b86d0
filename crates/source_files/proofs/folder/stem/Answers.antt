use Rattle.source_files.proofs.Listing.{stem_cut, stem_left}
use Rattle.source_files.proofs.folder.stem.Goals as goal

pub returns-in-Some : goal.returns-in-Some
returns-in-Some c = stem_cut _ _ _ c.in-Some.ensures.cases

pub returns-in-None : goal.returns-in-None
returns-in-None c = stem_left _ _ c.in-None.ensures.cases
