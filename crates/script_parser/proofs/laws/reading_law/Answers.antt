use Rattle.script_parser.proofs.WholeTexts.{one_reading}
use Rattle.script_parser.proofs.laws.reading_law.Goals as goal

pub returns : goal.returns
returns c = one_reading
