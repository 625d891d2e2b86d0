-- The bits so far are shown.
use Rattle.std.proofs.Common.{◌≡◌, length, take, map}
use Rattle.std.specs.List.{range_with_len}
use Rattle.machine_io.specs.Screen.{shade}
use Rattle.machine_io.proofs.screen.pixels.Given as goal

abbrev pub invariant-loop-bit : goal.invariant-loop-bit
invariant-loop-bit l = record {
  long : length l.pixels ≡ 16;
  shown : take l.bit l.pixels ≡ map (shade l.word) (range_with_len 0 l.bit);
}
