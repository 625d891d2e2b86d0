use Rattle.std.proofs.Common.{Option, length}
use Rattle.std.specs.Prelude.{reverse}
use Rattle.outer_world.specs.Files.{Files}
use Rattle.tst_runner.specs.Inner.Gathered.{Leads, sources_of}
use Rattle.tst_runner.proofs.gathering.next_new.Given as goal

abbrev pub invariant-names : goal.invariant-names
invariant-names l = (told : Option Files) → Leads (sources_of l.fn.places told) (reverse l.fn.stack.items) l.fn.gathered.entries.items (reverse l.stack.items) l.gathered.entries.items

abbrev pub decreases-names : goal.decreases-names
decreases-names l = length l.stack.items
