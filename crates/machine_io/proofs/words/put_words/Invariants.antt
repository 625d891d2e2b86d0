-- The lines of the addresses so far have been handed to the buffer.
use Rattle.std.proofs.Common.{◌≡◌, ◌≤◌, ◌+◌, ◌-◌, ℕ, max, take}
use Rattle.outer_world.specs.Written.{Passes}
use Rattle.outer_world.specs.declared.sink.Put.TheVariants as put
use Rattle.machine_io.specs.Words.{Gives}
use Rattle.machine_io.proofs.Lines.{lines}
use Rattle.machine_io.proofs.words.put_words.Given as goal

abbrev pub invariant-loop-address : goal.invariant-loop-address
invariant-loop-address g l = record {
  same_sink : l.out.sink.ghost_name ≡ l.fn.out.sink.ghost_name;
  passes : (words : ℕ → ℕ) → Gives (goal.W-post g l.word) l.from l.to words → Passes (g.S.Sink.state l.fn.out.sink.now) (take l.fn.out.len l.fn.out.buffer) (g.S.Sink.state l.out.sink.now) (take l.out.len l.out.buffer) (lines words l.zeros l.from (l.address - l.from)) put.Done;
  counts : (g.S.Sink.state l.out.sink.now).faults ≡ (g.S.Sink.state l.fn.out.sink.now).faults;
  near : l.address ≤ max l.from (l.to + 1);
}
