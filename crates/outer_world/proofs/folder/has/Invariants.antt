use Rattle.std.proofs.Common.{◌≡◌, drop}
use Rattle.outer_world.specs.Files.{has_name}
use Rattle.outer_world.proofs.folder.has.Given as goal

abbrev pub invariant-loop-other : goal.invariant-loop-other
invariant-loop-other l = has_name (drop l.other-index l.names) l.name ≡ has_name l.names l.name
