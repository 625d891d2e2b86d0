use Rattle.std.proofs.Common.{◌≡◌, map, take}
use Rattle.jack_parser.specs.ClassTrees.{parameter_tree}
use Rattle.jack_os.specs.Inner.Sketched as sketched
use Rattle.jack_os.proofs.making.parameters.Given as goal

abbrev pub invariant-loop-one : goal.invariant-loop-one
invariant-loop-one l = map parameter_tree l.all.items ≡ map sketched.parameter (take l.one-index l.sketches)
