-- Each row is a computation.
use Rattle.std.proofs.Common.{List, [], Result, Ok, Err, refl, arith}
use Rattle.grammar.specs.declared.Fault.{Fault}
use Rattle.jack_tree.specs.Tokens.{Word}
use Rattle.jack_lexer.specs.Tokens.{tokens_of}
use Rattle.jack_parser.specs.Rows.{small_text, large_text, shifts_text}
use Rattle.jack_parser.proofs.laws.rows_law.Goals as goal

abbrev tokens_in : Result (List Word) Fault → List Word
tokens_in (Ok ts) = ts
tokens_in (Err f) = []

pub returns : goal.returns
returns c = record {
  tokens = refl;
  spelled = record {
    tokens = tokens_in (tokens_of small_text);
    cut = refl;
    say = (refl, ((refl, refl, refl), (refl, (refl, (refl, ((refl, refl, refl), (refl, (refl, ((refl, refl, refl), ((refl, refl, refl), (refl, (refl, ((refl, refl, refl), (refl, (refl, ((refl, refl, refl), ((refl, refl, refl), (refl, ((refl, refl, refl), (refl, ((refl, refl, refl), (refl, (refl, ((refl, refl, refl), ((refl, refl, refl), (refl, (refl, ((refl, refl, refl), (refl, (refl, ((refl, refl, refl), (refl, (refl, ((refl, refl, refl), ((refl, refl, refl), (refl, (refl, (refl, (refl, ((refl, refl, refl), ((refl, refl, refl), (refl, (refl, (refl, (refl, (refl, ((refl, refl, refl), (refl, tt))))))))))))))))))))))))))))))))))))))))))))))));
    limits = record {
      statics = omega arith;
      fields = omega arith;
      subroutines = (
        record {
          parameters = omega arith;
          locals = omega arith;
          statements = (omega arith, (omega arith, omega arith, (omega arith, tt), ((tt, (tt, tt)), tt)), (omega arith, (omega arith, ((omega arith, tt), tt), (omega arith, (tt, tt), tt), (omega arith, (tt, ((omega arith, tt), tt)), tt)), tt));
        },
        tt,
      );
    };
  };
  large_spelled = record {
    tokens = tokens_in (tokens_of large_text);
    cut = refl;
    say = (refl, ((refl, refl, refl), (refl, (refl, ((refl, refl, refl), ((refl, refl, refl), (refl, ((refl, refl, refl), (refl, (refl, (refl, ((refl, refl, refl), (refl, (refl, (refl, ((refl, refl, refl), (refl, (refl, ((refl, refl, refl), (refl, ((refl, refl, refl), ((refl, refl, refl), (refl, (refl, (refl, (refl, ((refl, refl, refl), (refl, ((refl, refl, refl), (refl, (refl, (refl, ((refl, refl, refl), (refl, ((refl, refl, refl), ((refl, refl, refl), (refl, ((refl, refl, refl), (refl, (refl, ((refl, refl, refl), (refl, (refl, (refl, ((refl, refl, refl), ((refl, refl, refl), ((refl, refl, refl), (refl, ((refl, refl, refl), (refl, ((refl, refl, refl), (refl, ((refl, refl, refl), (refl, ((refl, refl, refl), ((refl, refl, refl), ((refl, refl, refl), (refl, ((refl, refl, refl), (refl, ((refl, refl, refl), (refl, (refl, ((refl, refl, refl), (refl, (refl, (refl, (refl, ((refl, refl, refl), (refl, (refl, (refl, (refl, (refl, (refl, ((refl, refl, refl), ((refl, refl, refl), (refl, (refl, (refl, (refl, ((refl, refl, refl), ((refl, refl, refl), (refl, (refl, (refl, ((refl, refl, refl), (refl, (refl, (refl, ((refl, refl, refl), (refl, ((refl, refl, refl), (refl, (refl, ((refl, refl, refl), (refl, (refl, (refl, ((refl, refl, refl), ((refl, refl, refl), (refl, ((refl, refl, refl), (refl, ((refl, refl, refl), (refl, (refl, ((refl, refl, refl), (refl, tt)))))))))))))))))))))))))))))))))))))))))))))))))))))))))))))))))))))))))))))))))))))))))))))))))))))))))))));
    limits = record {
      statics = omega arith;
      fields = omega arith;
      subroutines = (
        record {
          parameters = omega arith;
          locals = omega arith;
          statements = (omega arith, ((omega arith, (tt, tt)), ((omega arith, (tt, tt)), (tt, (tt, (tt, (tt, (tt, (tt, (tt, (tt, (tt, tt))))))))))), (omega arith, (omega arith, (tt, tt), (omega arith, (omega arith, ((omega arith, (tt, tt)), tt), (omega arith, tt, tt)), (omega arith, (omega arith, omega arith, (tt, tt), ((tt, tt), tt)), tt))), (omega arith, tt, tt)));
        },
        (
          record {
            parameters = omega arith;
            locals = omega arith;
            statements = (omega arith, ((omega arith, omega arith, (tt, tt), tt), tt), tt);
          },
          tt,
        ),
      );
    };
  };
  shifts_spelled = record {
    tokens = tokens_in (tokens_of shifts_text);
    cut = refl;
    say = (refl, ((refl, refl, refl), (refl, (refl, (refl, ((refl, refl, refl), (refl, (refl, ((refl, refl, refl), (refl, (refl, ((refl, refl, refl), (refl, ((refl, refl, refl), ((refl, refl, refl), (refl, (refl, (refl, (refl, (refl, (refl, (refl, ((refl, refl, refl), (refl, tt))))))))))))))))))))))));
    limits = record {
      statics = omega arith;
      fields = omega arith;
      subroutines = (
        record {
          parameters = omega arith;
          locals = omega arith;
          statements = (omega arith, ((omega arith, tt), ((omega arith, (omega arith, (omega arith, ((omega arith, tt), tt)))), tt)), tt);
        },
        tt,
      );
    };
  };
}
