use Rattle.std.proofs.Common.{◌≡◌, ◌+◌, length}
use Rattle.scan_text.specs.Blanks.{block}
use Rattle.scan_text.proofs.Gone.{more_by}
use Rattle.scan_text.proofs.block_len.Given as goal

abbrev pub invariant-loop-tail : goal.invariant-loop-tail
invariant-loop-tail l = record {
  within : l.n + length l.rest ≡ length l.bytes;
  so_far : more_by l.n (block l.rest) ≡ block l.bytes;
}

abbrev pub decreases-loop-tail : goal.decreases-loop-tail
decreases-loop-tail l = length l.rest
