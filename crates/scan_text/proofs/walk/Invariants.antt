use Rattle.std.proofs.Common.{◌≡◌, ◌+◌, ◌≤◌, ◌^◌, length}
use Rattle.scan_text.specs.Text.{walk}
use Rattle.scan_text.proofs.walk.Given as goal

abbrev pub invariant-loop-byte : goal.invariant-loop-byte
invariant-loop-byte l = record {
  so_far : walk l.place l.rest ≡ walk l.fn.place l.bytes;
  counted : l.place.line + l.place.column + length l.rest ≤ 2 ^ 32;
  line : 1 ≤ l.place.line;
  column : 1 ≤ l.place.column;
}

abbrev pub decreases-loop-byte : goal.decreases-loop-byte
decreases-loop-byte l = length l.rest
