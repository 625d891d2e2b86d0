use Rattle.std.proofs.Common.{◌++◌}
use Rattle.std.specs.Fn.{FnReturnsAt}
use Rattle.outer_world.specs.Entries.{AreKept, TellsFile}
use Rattle.outer_world.proofs.standard.files_of_names.Given as goal

abbrev pub invariant-loop-name : goal.invariant-loop-name
invariant-loop-name g l = AreKept (λ name is. TellsFile (FnReturnsAt g.F.Fn l.ask) (l.folder ++ name) is) l.yielded l.kept.items
