use Rattle.std.proofs.Common.{◌≡◌, ◌+◌, length}
use Rattle.jack_names.specs.Inner.Whole.{all_statics}
use Rattle.jack_names.proofs.program.all_statics.Given as goal

abbrev pub invariant-loop-class : goal.invariant-loop-class
invariant-loop-class l = l.n + all_statics l.rest ≡ all_statics l.classes

abbrev pub decreases-loop-class : goal.decreases-loop-class
decreases-loop-class l = length l.rest
