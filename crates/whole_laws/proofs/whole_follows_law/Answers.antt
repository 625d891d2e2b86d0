use Rattle.whole_laws.proofs.Whole.{follows}
use Rattle.whole_laws.proofs.whole_follows_law.Goals as goal

pub returns : goal.returns
returns g c = λ meaning start image map keys most n f library m wires near is. follows _ meaning start image map keys most n f library m wires near is
