use Rattle.std.proofs.Common.{◌≡◌, ◌++◌, drop}
use Rattle.jack_compiler.specs.Inner.Surroundings.{the_around}
use Rattle.jack_compiler.specs.Inner.Postfix.{parts_lines}
use Rattle.jack_compiler.proofs.expressions.add_expression.Given as goal

abbrev pub invariant-loop-part : goal.invariant-loop-part
invariant-loop-part l = l.lines ++ parts_lines (the_around l.around) l.statement (drop l.part-index l.e.parts) ≡ l.initial.lines ++ parts_lines (the_around l.around) l.statement l.e.parts
