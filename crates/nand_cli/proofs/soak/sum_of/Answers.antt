use Rattle.std.proofs.Common.{◌≡◌, arith}
use Rattle.nand_cli.proofs.SoakSums.{whole_sum}
use Rattle.nand_cli.proofs.soak.sum_of.Goals as goal

pub returns : goal.returns
returns g c =
    let ended = c.loop-place-test.false in
    let few = c.loop-place.auto.place-end in
    whole_sum (g.L.Level.reading c.args.level.now).word c.loop-place.place c.loop-place.sum (let all : c.loop-place.place ≡ 22528 = omega (arith, ended, few) in all) c.loop-place.invariant
