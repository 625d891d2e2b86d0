-- The lines of the commits so far have been handed to the buffer.
use Rattle.std.proofs.Common.{◌≡◌, drop, take}
use Rattle.std.specs.List.{flat_map}
use Rattle.outer_world.proofs.Prints.{Prints}
use Rattle.image_map.specs.Text.{commit_line}
use Rattle.image_map.proofs.printing.put_commits.Given as goal

abbrev pub invariant-loop-address : goal.invariant-loop-address
invariant-loop-address g l = (l.out.sink.ghost_name ≡ l.fn.out.sink.ghost_name)
    × Prints (flat_map commit_line l.commits) (flat_map commit_line (drop l.address-index l.commits)) (g.S.Sink.state l.fn.out.sink.now) (take l.fn.out.len l.fn.out.buffer)
    (g.S.Sink.state l.out.sink.now) (take l.out.len l.out.buffer)
