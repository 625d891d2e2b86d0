use Rattle.std.proofs.Common.{◌≡◌, ◌-◌, suc, length, arith}
use Rattle.vm_translator.proofs.Joined.{stretched_last}
use Rattle.vm_translator.proofs.map.stretch.Goals as goal

pub returns-then-count-gt0 : goal.returns-then-count-gt0
returns-then-count-gt0 c =
    let v = c.args.points.now in
    let n : length v.items ≡ suc (c.len-count.result - 1) = omega (arith, v.ok.0) in
    stretched_last v.items (c.len-count.result - 1) c.args.to c.index-last.result.now n c.index-last.ensures
