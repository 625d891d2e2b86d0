use Rattle.grammar.proofs.Exact.{only, exact}
use Rattle.hdl_parser.specs.Spells.{Spells, Refuses}
use Rattle.hdl_parser.proofs.Readable.{read_can, read_again}
use Rattle.hdl_parser.proofs.Readings.{one_chip, no_fault, one_fault}
use Rattle.hdl_parser.proofs.reading.parse.Goals as goal

pub returns-clause-only : goal.returns-clause-only
returns-clause-only c d =
    let text = c.args.text.now in
    only (λ x. x) (Spells text) (Refuses text) (one_chip text) (no_fault text) (one_fault text) c.read.result d c.read.ensures.found c.read.ensures.fault

pub returns-clause-exact : goal.returns-clause-exact
returns-clause-exact c f =
    let text = c.args.text.now in
    exact (λ x. x) (Spells text) (Refuses text) (one_chip text) (no_fault text) (one_fault text) c.read.result f c.read.ensures.found c.read.ensures.fault

pub returns-clause-printable : goal.returns-clause-printable
returns-clause-printable c = read_can c.args.text.now c.read.result c.read.ensures.found

pub returns-clause-again : goal.returns-clause-again
returns-clause-again c = read_again c.args.text.now c.read.result c.read.ensures.found
