use Rattle.grammar.proofs.Exact.{only, exact}
use Rattle.grammar.proofs.Wholes.{not_both, first_fault}
use Rattle.key_script.specs.Tokens.{tokens_of, finish}
use Rattle.key_script.specs.Grammar.{script, whole, script_tree, Spells, Stopped}
use Rattle.key_script.proofs.Exactness.{spelled_once}
use Rattle.key_script.proofs.keys.read_lines.Goals as goal

pub returns-clause-only : goal.returns-clause-only
returns-clause-only c ls =
    let text = c.args.text.now in
    let g = script (finish text) in
    only (λ v. v.items) (Spells text) (Stopped text) (spelled_once text) (λ ms f. not_both g whole 0 (tokens_of text) (script_tree ms) f) (first_fault g whole 0 (tokens_of text)) c.read.result ls c.read.ensures.found c.read.ensures.fault

pub returns-clause-exact : goal.returns-clause-exact
returns-clause-exact c f =
    let text = c.args.text.now in
    let g = script (finish text) in
    exact (λ v. v.items) (Spells text) (Stopped text) (spelled_once text) (λ ms h. not_both g whole 0 (tokens_of text) (script_tree ms) h) (first_fault g whole 0 (tokens_of text)) c.read.result f c.read.ensures.found c.read.ensures.fault
