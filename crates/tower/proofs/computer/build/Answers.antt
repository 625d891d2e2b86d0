use Rattle.std.proofs.Common.{false}
use Rattle.jack_compiler.specs.Files.{files_of}
use Rattle.tower.proofs.Computers.{built, linked_bare}
use Rattle.tower.proofs.computer.build.Goals as goal

pub build_linked-requires-clause-starts : goal.build_linked-requires-clause-starts
build_linked-requires-clause-starts c = linked_bare false (files_of c.args.core.now) c.in-Ok.linked c.in-Ok.ensures.links

pub returns-in-Ok-clause-builds : goal.returns-in-Ok-clause-builds
returns-in-Ok-clause-builds c =
    built c.args.core.now c.in-Ok.linked c.in-Ok.ensures.links c.build_linked.result c.build_linked.ensures.image c.build_linked.ensures.fits c.build_linked.ensures.unbuilt
