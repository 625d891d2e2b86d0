-- This many values are left, and the calls are of the four subroutines.
use Rattle.std.proofs.Common.{◌≡◌, Some}
use Rattle.jack_core.specs.Heights.{height}
use Rattle.jack_tests.specs.Inner.Called.{AreOfFour}
use Rattle.jack_tests.proofs.programs.expression.Given as goal

abbrev pub invariant-loop-part : goal.invariant-loop-part
invariant-loop-part l = (height 0 l.all.items ≡ Some l.values) × AreOfFour l.all.items
