use Rattle.std.proofs.Common.{arith, ap, length-drop, length-take, length}
use Rattle.scan_text.proofs.Texts.{walk_follows}
use Rattle.scan_text.proofs.Scan.skip.Goals as goal

pub invariant_of-self : goal.invariant_of-self
invariant_of-self c =
    let s = c.args.self.now in
    let w = walk_follows s.place c.split_at.result.0.now s.line_from_one s.column_from_one in
    let taken = ap length c.split_at.ensures.front in
    let left = ap length c.split_at.ensures.back in
    let counted = s.counted in
    record {
      counted = rw c.walk-place.ensures (omega (arith, w.sum, length-take c.args.n s.rest.now, length-drop c.args.n s.rest.now));
      line_from_one = rw c.walk-place.ensures w.line;
      column_from_one = rw c.walk-place.ensures w.column;
    }
