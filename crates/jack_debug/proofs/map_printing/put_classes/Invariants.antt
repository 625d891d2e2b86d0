-- The lines of the classes so far have been handed to the buffer.
use Rattle.std.proofs.Common.{◌≡◌, drop, take}
use Rattle.std.specs.List.{flat_map}
use Rattle.outer_world.proofs.Prints.{Prints}
use Rattle.jack_debug.specs.MapText.{lines_of_class}
use Rattle.std.specs.Prelude.{slice_get}
use Rattle.jack_debug.proofs.map_printing.put_classes.Given as goal

abbrev pub invariant-loop-k : goal.invariant-loop-k
invariant-loop-k g l = (l.out.sink.ghost_name ≡ l.fn.out.sink.ghost_name)
    × Prints (flat_map (λ k. lines_of_class (slice_get l.places.classes k)) l.by_name) (flat_map (λ k. lines_of_class (slice_get l.places.classes k)) (drop l.k-index l.by_name)) (g.S.Sink.state l.fn.out.sink.now) (take l.fn.out.len l.fn.out.buffer)
    (g.S.Sink.state l.out.sink.now) (take l.out.len l.out.buffer)
