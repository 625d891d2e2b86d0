use Rattle.soak_outcome.proofs.Fits.{fits}
use Rattle.soak_outcome.proofs.fits_law.Goals as goal

pub returns : goal.returns
returns c = fits c.printed_class_law.ensures c.length_law.ensures c.class_law.ensures c.resolved_law.ensures c.budget_law.ensures.budgets c.each_folder_law.ensures
