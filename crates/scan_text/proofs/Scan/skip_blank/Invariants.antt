use Rattle.std.proofs.Common.{◌≡◌, length}
use Rattle.scan_text.specs.Blanks.{blank, blanks, IsWithin}
use Rattle.scan_text.proofs.Scan.skip_blank.Given as goal

abbrev pub invariant-loop-next : goal.invariant-loop-next
invariant-loop-next l = record {
  so_far : blanks 0 l.self.place l.self.rest.now ≡ blanks 0 l.fn.self.place l.fn.self.rest.now;
  next : l.next ≡ blank l.self.rest.now;
  within : IsWithin l.next (length l.self.rest.now);
}

abbrev pub decreases-loop-next : goal.decreases-loop-next
decreases-loop-next l = length l.self.rest.now
