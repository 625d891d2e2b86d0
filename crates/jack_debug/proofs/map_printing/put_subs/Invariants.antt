-- The lines of the subroutines so far have been handed to the buffer.
use Rattle.std.proofs.Common.{◌≡◌, drop, take}
use Rattle.std.specs.List.{flat_map}
use Rattle.outer_world.proofs.Prints.{Prints}
use Rattle.jack_debug.specs.MapText.{lines_of_sub}
use Rattle.jack_debug.specs.Walk.{sub_at}
use Rattle.jack_debug.proofs.map_printing.put_subs.Given as goal

abbrev pub invariant-loop-number : goal.invariant-loop-number
invariant-loop-number g l = (l.out.sink.ghost_name ≡ l.fn.out.sink.ghost_name)
    × Prints (flat_map (λ k. lines_of_sub (sub_at l.places k)) l.linked) (flat_map (λ k. lines_of_sub (sub_at l.places k)) (drop l.number-index l.linked)) (g.S.Sink.state l.fn.out.sink.now) (take l.fn.out.len l.fn.out.buffer)
    (g.S.Sink.state l.out.sink.now) (take l.out.len l.out.buffer)
