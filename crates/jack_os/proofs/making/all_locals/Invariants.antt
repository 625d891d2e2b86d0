use Rattle.std.proofs.Common.{◌≡◌, map, take}
use Rattle.jack_parser.specs.ClassTrees.{locals_tree}
use Rattle.jack_os.specs.Inner.Sketched as sketched
use Rattle.jack_os.proofs.making.all_locals.Given as goal

abbrev pub invariant-loop-one : goal.invariant-loop-one
invariant-loop-one l = map locals_tree l.all.items ≡ map sketched.locals (take l.one-index l.sketches)
