-- The words of the row so far have been handed to the buffer.
use Rattle.std.proofs.Common.{◌≡◌, ℕ, take}
use Rattle.outer_world.specs.Written.{Passes}
use Rattle.outer_world.specs.declared.sink.Put.TheVariants as put
use Rattle.machine_io.specs.Words.{Gives}
use Rattle.machine_io.proofs.Pixels.{pixels_to}
use Rattle.machine_io.proofs.screen.put_row.Given as goal

abbrev pub invariant-loop-k : goal.invariant-loop-k
invariant-loop-k g l = record {
  same_sink : l.out.sink.ghost_name ≡ l.fn.out.sink.ghost_name;
  passes : (words : ℕ → ℕ) → Gives (goal.W-post g l.word) 16384 24575 words → Passes (g.S.Sink.state l.fn.out.sink.now) (take l.fn.out.len l.fn.out.buffer) (g.S.Sink.state l.out.sink.now) (take l.out.len l.out.buffer) (pixels_to words l.row l.k) put.Done;
  counts : (g.S.Sink.state l.out.sink.now).faults ≡ (g.S.Sink.state l.fn.out.sink.now).faults;
}
