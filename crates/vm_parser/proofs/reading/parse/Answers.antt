use Rattle.grammar.proofs.Exact.{only, exact}
use Rattle.grammar.proofs.Wholes.{first_fault}
use Rattle.vm_parser.specs.Tokens.{tokens_of, finish}
use Rattle.vm_parser.specs.Grammar.{vm, whole, greatest}
use Rattle.vm_parser.specs.Trees.{Spells, Refuses}
use Rattle.vm_parser.proofs.Exactness.{spelled_once, not_both}
use Rattle.vm_parser.proofs.Reread.{read_can, read_again}
use Rattle.vm_parser.proofs.reading.parse.Goals as goal

pub returns-clause-only : goal.returns-clause-only
returns-clause-only c p =
    let text = c.args.text.now in
    let bare = c.args.bare in
    only (λ q. q) (Spells bare c.args.name.now text) (Refuses bare text) (spelled_once bare c.args.name.now text) (not_both bare c.args.name.now text) (first_fault (vm (finish text)) (whole bare) greatest (tokens_of text)) c.read.result p c.read.ensures.found c.read.ensures.fault

pub returns-clause-exact : goal.returns-clause-exact
returns-clause-exact c f =
    let text = c.args.text.now in
    let bare = c.args.bare in
    exact (λ q. q) (Spells bare c.args.name.now text) (Refuses bare text) (spelled_once bare c.args.name.now text) (not_both bare c.args.name.now text) (first_fault (vm (finish text)) (whole bare) greatest (tokens_of text)) c.read.result f c.read.ensures.found c.read.ensures.fault

pub returns-clause-printable : goal.returns-clause-printable
returns-clause-printable c = read_can c.args.bare c.args.name.now c.args.text.now c.read.result c.read.ensures.found

pub returns-clause-again : goal.returns-clause-again
returns-clause-again c = read_again c.args.bare c.args.name.now c.args.text.now c.read.result c.read.ensures.found
