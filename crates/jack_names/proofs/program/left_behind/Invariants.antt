use Rattle.std.proofs.Common.{◌≡◌, ◌+◌, length}
use Rattle.jack_names.specs.Inner.Whole.{all_statics}
use Rattle.jack_names.proofs.program.left_behind.Given as goal

abbrev pub invariant-loop-class : goal.invariant-loop-class
invariant-loop-class l = all_statics l.rest + l.numbers ≡ all_statics l.classes + l.left

abbrev pub decreases-loop-class : goal.decreases-loop-class
decreases-loop-class l = length l.rest
