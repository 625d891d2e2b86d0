use Rattle.grammar.proofs.Exact.{only, exact}
use Rattle.script_parser.specs.Trees.{commands_of, Spells, Refuses}
use Rattle.script_parser.proofs.WholeTexts.{one_script, no_fault, one_fault}
use Rattle.script_parser.proofs.reading.parse_script.Goals as goal

pub returns-clause-only : goal.returns-clause-only
returns-clause-only c d =
    let text = c.args.text.now in
    only (λ v. commands_of v.items) (Spells text) (Refuses text) (one_script text) (no_fault text) (one_fault text) c.read.result d c.read.ensures.found c.read.ensures.fault

pub returns-clause-exact : goal.returns-clause-exact
returns-clause-exact c f =
    let text = c.args.text.now in
    exact (λ v. commands_of v.items) (Spells text) (Refuses text) (one_script text) (no_fault text) (one_fault text) c.read.result f c.read.ensures.found c.read.ensures.fault
