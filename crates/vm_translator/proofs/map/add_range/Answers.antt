use Rattle.std.proofs.Common.{◌≡◌, ◌-◌, ◌∙◌, suc, length, arith}
use Rattle.vm_translator.proofs.Joined.{added_first, added_other, added_same}
use Rattle.vm_translator.proofs.map.add_range.Goals as goal
use Rattle.vm_translator.proofs.map.add_range.Goals.{then-count-gt0+else-same_point, else-count-gt0}

pub returns-then-same_point : goal.returns-then-same_point
returns-then-same_point c =
    let v = c.args.points.now in
    let n : length v.items ≡ suc (c.len-count.result - 1) = omega (arith, v.ok.0) in
    added_same v.items (c.len-count.result - 1) c.args.range c.index-last.result.now n c.index-last.ensures (rw c.same_point.ensures at c.if-same_point.true)

pub returns : goal.returns
returns c = c.in_ok-push.ensures.items ∙ elim c.if-count-gt0.branch [
  | then-count-gt0+else-same_point w ↦ (
      let v = c.args.points.now in
      let t = w.if-count-gt0.true in
      let n : length v.items ≡ suc (c.len-count.result - 1) = omega (arith, v.ok.0) in
      added_other v.items (c.len-count.result - 1) c.args.range w.index-last.result.now n w.index-last.ensures (rw w.same_point.ensures at w.if-same_point.false)
      )
  | else-count-gt0 w ↦ (
      let v = c.args.points.now in
      let t = w.if-count-gt0.false in
      let n : length v.items ≡ 0 = omega (arith, v.ok.0) in
      added_first v.items c.args.range n
      )
]
