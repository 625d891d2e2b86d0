-- The statics of this many classes.
use Rattle.std.proofs.Common.{◌≡◌, replicate, take}
use Rattle.std.specs.Prelude.{sum_by}
use Rattle.jack_machine.proofs.jack.new_statics.Given as goal

abbrev pub invariant-loop-class : goal.invariant-loop-class
invariant-loop-class l = l.statics.items ≡ replicate (sum_by (λ c. c.statics) (take l.class-index l.classes)) 0
