use Rattle.std.proofs.Common.{◌++◌}
use Rattle.jack_core.specs.Reading.{the_expression}
use Rattle.jack_meaning.specs.Linked.{calls}
use Rattle.jack_tests.proofs.Calls.{both_four}
use Rattle.jack_tests.proofs.programs.statement.Goals as goal

pub returns-in_ok-expression-in-Store-3 : goal.returns-in_ok-expression-in-Store-3
returns-in_ok-expression-in-Store-3 c =
    let a = calls (the_expression c.in_ok-expression-in-Store.field-0) in
    let i = calls (the_expression c.in_ok-expression-in-Store-2.field-0) in
    let e = calls (the_expression c.in_ok-expression-in-Store-3.field-0) in
    both_four a (i ++ e) c.in_ok-expression-in-Store.ensures (both_four i e c.in_ok-expression-in-Store-2.ensures c.in_ok-expression-in-Store-3.ensures)
