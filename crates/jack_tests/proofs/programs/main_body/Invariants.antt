-- The statements so far call the four subroutines alone.
use Rattle.jack_meaning.specs.Linked.{text_calls}
use Rattle.jack_core.specs.Texts.{the_block}
use Rattle.jack_tests.specs.Inner.Called.{OfFour}
use Rattle.jack_tests.proofs.programs.main_body.Given as goal

abbrev pub invariant-loop-number : goal.invariant-loop-number
invariant-loop-number l = OfFour (text_calls (the_block l.all.items))
