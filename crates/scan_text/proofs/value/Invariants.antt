use Rattle.std.proofs.Common.{◌≡◌, ◌≤◌, length}
use Rattle.scan_text.specs.Text.{front, decimal, capped_count, is_digit}
use Rattle.scan_text.proofs.value.Given as goal

abbrev pub invariant-loop-digit : goal.invariant-loop-digit
invariant-loop-digit l = record {
  all_digits : front is_digit l.rest ≡ l.rest;
  bounded : l.n ≤ 1000000001;
  so_far : capped_count (decimal l.n l.rest) ≡ capped_count (decimal 0 l.digits);
}

abbrev pub decreases-loop-digit : goal.decreases-loop-digit
decreases-loop-digit l = length l.rest
