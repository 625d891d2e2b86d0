use Rattle.soak_outcome.proofs.Unrefused.{unrefused}
use Rattle.soak_outcome.proofs.unrefused_law.Goals as goal

pub returns : goal.returns
returns c =
    unrefused c.printed_class_law.ensures c.length_law.ensures c.class_law.ensures c.resolved_law.ensures c.spelled_law.ensures c.named_law.ensures c.fits_law.ensures
