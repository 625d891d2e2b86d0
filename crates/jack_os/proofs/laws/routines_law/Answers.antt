-- Each text is a computation.
use Rattle.std.proofs.Common.{List, [], Result, Ok, Err, refl}
use Rattle.grammar.specs.declared.Fault.{Fault}
use Rattle.jack_tree.specs.Tokens.{Word}
use Rattle.jack_lexer.specs.Tokens.{tokens_of}
use Rattle.jack_os.specs.RoutineTexts.{multiply_text, divide_text, init_text, alloc_text, deAlloc_text}
use Rattle.jack_os.proofs.laws.routines_law.Goals as goal

abbrev tokens_in : Result (List Word) Fault → List Word
tokens_in (Ok ts) = ts
tokens_in (Err f) = []

pub returns : goal.returns
returns c = record {
  multiply_told = record { tokens = tokens_in (tokens_of multiply_text); cut = refl; tell = (refl, (refl, ((refl, refl), (refl, (refl, ((refl, refl), (refl, (refl, ((refl, refl), (refl, (refl, (refl, (refl, ((refl, refl), (refl, ((refl, refl), (refl, ((refl, refl), (refl, ((refl, refl), (refl, ((refl, refl), ((refl, refl), (refl, ((refl, refl), (refl, ((refl, refl), ((refl, refl), (refl, (refl, (refl, ((refl, refl), (refl, (refl, (refl, ((refl, refl), ((refl, refl), (refl, (refl, (refl, (refl, ((refl, refl), (refl, (refl, (refl, (refl, ((refl, refl), ((refl, refl), ((refl, refl), (refl, ((refl, refl), (refl, (refl, (refl, (refl, ((refl, refl), ((refl, refl), (refl, ((refl, refl), ((refl, refl), ((refl, refl), (refl, (refl, ((refl, refl), ((refl, refl), (refl, ((refl, refl), ((refl, refl), ((refl, refl), (refl, ((refl, refl), ((refl, refl), (refl, ((refl, refl), ((refl, refl), ((refl, refl), (refl, ((refl, refl), ((refl, refl), (refl, ((refl, refl), ((refl, refl), (refl, (refl, (refl, ((refl, refl), ((refl, refl), (refl, ((refl, refl), tt))))))))))))))))))))))))))))))))))))))))))))))))))))))))))))))))))))))))))))))))))))))))) };
  divide_told = record { tokens = tokens_in (tokens_of divide_text); cut = refl; tell = (refl, (refl, ((refl, refl), (refl, (refl, ((refl, refl), (refl, (refl, ((refl, refl), (refl, (refl, (refl, (refl, ((refl, refl), (refl, ((refl, refl), (refl, ((refl, refl), (refl, ((refl, refl), (refl, ((refl, refl), (refl, ((refl, refl), (refl, ((refl, refl), ((refl, refl), (refl, (refl, (refl, ((refl, refl), ((refl, refl), (refl, ((refl, refl), (refl, (refl, (refl, (refl, (refl, ((refl, refl), ((refl, refl), (refl, (refl, (refl, (refl, ((refl, refl), (refl, ((refl, refl), ((refl, refl), (refl, (refl, (refl, ((refl, refl), ((refl, refl), (refl, (refl, ((refl, refl), (refl, ((refl, refl), ((refl, refl), (refl, (refl, ((refl, refl), (refl, (refl, ((refl, refl), (refl, ((refl, refl), ((refl, refl), (refl, (refl, (refl, ((refl, refl), ((refl, refl), (refl, (refl, ((refl, refl), (refl, ((refl, refl), ((refl, refl), (refl, (refl, ((refl, refl), (refl, (refl, ((refl, refl), (refl, (refl, (refl, ((refl, refl), ((refl, refl), (refl, (refl, (refl, (refl, ((refl, refl), ((refl, refl), (refl, ((refl, refl), ((refl, refl), ((refl, refl), (refl, ((refl, refl), ((refl, refl), (refl, ((refl, refl), ((refl, refl), ((refl, refl), (refl, ((refl, refl), (refl, ((refl, refl), ((refl, refl), (refl, (refl, (refl, ((refl, refl), ((refl, refl), (refl, ((refl, refl), ((refl, refl), (refl, (refl, (refl, ((refl, refl), ((refl, refl), (refl, ((refl, refl), ((refl, refl), ((refl, refl), (refl, ((refl, refl), (refl, (refl, (refl, (refl, ((refl, refl), ((refl, refl), ((refl, refl), (refl, ((refl, refl), (refl, ((refl, refl), ((refl, refl), ((refl, refl), (refl, (refl, (refl, (refl, ((refl, refl), ((refl, refl), (refl, ((refl, refl), ((refl, refl), ((refl, refl), (refl, ((refl, refl), ((refl, refl), (refl, ((refl, refl), ((refl, refl), (refl, (refl, (refl, ((refl, refl), ((refl, refl), (refl, ((refl, refl), ((refl, refl), (refl, (refl, (refl, ((refl, refl), (refl, ((refl, refl), (refl, (refl, ((refl, refl), (refl, ((refl, refl), (refl, (refl, ((refl, refl), ((refl, refl), (refl, ((refl, refl), tt)))))))))))))))))))))))))))))))))))))))))))))))))))))))))))))))))))))))))))))))))))))))))))))))))))))))))))))))))))))))))))))))))))))))))))))))))))))))))))))))))))))))))))))))))))))))))) };
  init_told = record { tokens = tokens_in (tokens_of init_text); cut = refl; tell = (refl, (refl, ((refl, refl), (refl, (refl, (refl, (refl, ((refl, refl), ((refl, refl), (refl, ((refl, refl), ((refl, refl), (refl, (refl, (refl, ((refl, refl), ((refl, refl), (refl, ((refl, refl), (refl, ((refl, refl), ((refl, refl), (refl, (refl, (refl, (refl, (refl, (refl, ((refl, refl), ((refl, refl), (refl, (refl, (refl, (refl, (refl, (refl, ((refl, refl), (refl, ((refl, refl), tt))))))))))))))))))))))))))))))))))))))) };
  alloc_told = record { tokens = tokens_in (tokens_of alloc_text); cut = refl; tell = (refl, (refl, ((refl, refl), (refl, (refl, ((refl, refl), (refl, (refl, (refl, ((refl, refl), ((refl, refl), (refl, ((refl, refl), (refl, (refl, (refl, ((refl, refl), (refl, ((refl, refl), (refl, ((refl, refl), ((refl, refl), (refl, (refl, (refl, ((refl, refl), ((refl, refl), (refl, ((refl, refl), (refl, (refl, (refl, (refl, (refl, ((refl, refl), (refl, ((refl, refl), ((refl, refl), (refl, (refl, (refl, ((refl, refl), ((refl, refl), (refl, ((refl, refl), (refl, (refl, (refl, (refl, (refl, ((refl, refl), ((refl, refl), (refl, ((refl, refl), ((refl, refl), (refl, (refl, ((refl, refl), ((refl, refl), (refl, ((refl, refl), (refl, ((refl, refl), (refl, (refl, (refl, ((refl, refl), ((refl, refl), (refl, (refl, (refl, (refl, ((refl, refl), (refl, (refl, (refl, ((refl, refl), (refl, (refl, (refl, ((refl, refl), ((refl, refl), (refl, (refl, (refl, ((refl, refl), (refl, ((refl, refl), (refl, (refl, (refl, ((refl, refl), ((refl, refl), ((refl, refl), (refl, (refl, (refl, ((refl, refl), (refl, ((refl, refl), ((refl, refl), (refl, (refl, (refl, ((refl, refl), ((refl, refl), (refl, ((refl, refl), (refl, (refl, (refl, (refl, (refl, (refl, (refl, ((refl, refl), ((refl, refl), (refl, (refl, (refl, (refl, ((refl, refl), (refl, (refl, (refl, (refl, (refl, ((refl, refl), ((refl, refl), ((refl, refl), (refl, (refl, (refl, ((refl, refl), ((refl, refl), (refl, (refl, (refl, (refl, ((refl, refl), (refl, (refl, (refl, ((refl, refl), ((refl, refl), (refl, ((refl, refl), ((refl, refl), (refl, ((refl, refl), ((refl, refl), ((refl, refl), (refl, (refl, (refl, (refl, ((refl, refl), ((refl, refl), (refl, (refl, (refl, (refl, ((refl, refl), (refl, ((refl, refl), ((refl, refl), ((refl, refl), (refl, (refl, (refl, ((refl, refl), ((refl, refl), (refl, ((refl, refl), (refl, ((refl, refl), ((refl, refl), (refl, ((refl, refl), (refl, (refl, (refl, (refl, (refl, ((refl, refl), ((refl, refl), (refl, ((refl, refl), (refl, (refl, (refl, (refl, ((refl, refl), (refl, (refl, ((refl, refl), tt)))))))))))))))))))))))))))))))))))))))))))))))))))))))))))))))))))))))))))))))))))))))))))))))))))))))))))))))))))))))))))))))))))))))))))))))))))))))))))))))))))))))))))))))))))))))))))))))))))) };
  deAlloc_told = record { tokens = tokens_in (tokens_of deAlloc_text); cut = refl; tell = (refl, (refl, ((refl, refl), (refl, ((refl, refl), ((refl, refl), (refl, (refl, ((refl, refl), ((refl, refl), (refl, ((refl, refl), ((refl, refl), (refl, (refl, ((refl, refl), ((refl, refl), (refl, (refl, (refl, (refl, ((refl, refl), (refl, ((refl, refl), ((refl, refl), (refl, ((refl, refl), (refl, ((refl, refl), (refl, ((refl, refl), tt))))))))))))))))))))))))))))))) };
}
