use Rattle.std.proofs.Common.{take}
use Rattle.jack_os.specs.System.{AreClassesOf, system}
use Rattle.jack_os.proofs.reading.classes.Given as goal

abbrev pub invariant-loop-name : goal.invariant-loop-name
invariant-loop-name l = AreClassesOf (take l.name-index system) l.classes.items
