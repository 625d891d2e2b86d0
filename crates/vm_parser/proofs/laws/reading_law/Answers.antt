use Rattle.grammar.proofs.Wholes.{first_fault}
use Rattle.vm_parser.specs.Tokens.{tokens_of, finish}
use Rattle.vm_parser.specs.Grammar.{vm, whole, greatest}
use Rattle.vm_parser.proofs.Exactness.{spelled_once, not_both}
use Rattle.vm_parser.proofs.laws.reading_law.Goals as goal

pub returns : goal.returns
returns c bare name text = record {
  one = spelled_once bare name text;
  one_fault = first_fault (vm (finish text)) (whole bare) greatest (tokens_of text);
  not_both = not_both bare name text;
}
