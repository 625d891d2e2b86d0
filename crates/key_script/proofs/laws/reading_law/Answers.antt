use Rattle.std.proofs.Common.{ap, sym, ◌∙◌}
use Rattle.grammar.proofs.Wholes.{not_both, first_fault}
use Rattle.key_script.specs.Tokens.{tokens_of, finish}
use Rattle.key_script.specs.Faults.{key_fault}
use Rattle.key_script.specs.Grammar.{script, whole, script_tree}
use Rattle.key_script.proofs.Exactness.{spelled_once}
use Rattle.key_script.proofs.laws.reading_law.Goals as goal

pub returns : goal.returns
returns c text =
    let g = script (finish text) in
    record {
      one = spelled_once text;
      one_fault = λ f h a b. a.2 ∙ ap key_fault (first_fault g whole 0 (tokens_of text) a.0 b.0 a.1 b.1) ∙ sym b.2;
      not_both = λ ls f s r. not_both g whole 0 (tokens_of text) (script_tree ls) r.0 s r.1;
    }
