use Rattle.std.proofs.Common.{◌≡◌, ◌+◌, length}
use Rattle.scan_text.specs.Blanks.{line}
use Rattle.scan_text.proofs.line_len.Given as goal

abbrev pub invariant-loop-tail : goal.invariant-loop-tail
invariant-loop-tail l = record {
  within : l.n + length l.rest ≡ length l.bytes;
  so_far : l.n + length (line l.rest) ≡ length (line l.bytes);
}

abbrev pub decreases-loop-tail : goal.decreases-loop-tail
decreases-loop-tail l = length l.rest
