-- The statements so far call the four subroutines alone.
use Rattle.jack_meaning.specs.Linked.{text_calls}
use Rattle.jack_core.specs.Texts.{the_block}
use Rattle.jack_tests.specs.Inner.Called.{OfFour}
use Rattle.jack_tests.proofs.programs.statements.Given as goal

abbrev pub invariant-loop-row : goal.invariant-loop-row
invariant-loop-row l = OfFour (text_calls (the_block l.all.items))
