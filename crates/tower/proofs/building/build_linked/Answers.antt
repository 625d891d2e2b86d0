use Rattle.tower.proofs.Computers.{is_mapped}
use Rattle.tower.proofs.building.build_linked.Goals as goal

pub image_of-requires-clause-mapped : goal.image_of-requires-clause-mapped
image_of-requires-clause-mapped c =
    is_mapped c.args.linked.now c.in-Ok.coded.instrs c.in-Ok.coded.map c.requires.starts c.in-Ok.ensures.covers c.in-Ok.ensures.shared_covers c.in-Ok.ensures.image c.in-Ok.ensures.fits
