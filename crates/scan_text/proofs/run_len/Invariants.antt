use Rattle.std.proofs.Common.{◌≡◌, ◌+◌, length, ℕ, Bool}
use Rattle.scan_text.specs.Text.{front, Computes}
use Rattle.scan_text.proofs.run_len.Given as goal

abbrev pub invariant-loop-byte : goal.invariant-loop-byte
invariant-loop-byte g l = record {
  within : l.n + length l.rest ≡ length l.bytes;
  longest : (test : ℕ → Bool) → Computes (goal.P-post g l.keep) test → l.n + length (front test l.rest) ≡ length (front test l.bytes);
}

abbrev pub decreases-loop-byte : goal.decreases-loop-byte
decreases-loop-byte g l = length l.rest
