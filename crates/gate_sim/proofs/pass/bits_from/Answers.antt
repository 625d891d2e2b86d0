use Rattle.std.proofs.Common.{◌/◌, ◌-◌, ◌^◌, ap, ◌∙◌, arith, bit_and}
use Rattle.std.proofs.lemmas.Nat.{and_mask, one_shl}
use Rattle.gate_sim.proofs.pass.bits_from.Goals as goal

pub returns : goal.returns
returns c =
    let inside = c.requires.inside in
    let fits = c.requires.fits in
    ap (λ m. bit_and (c.args.word / 2 ^ c.args.at) (m - 1)) (one_shl c.args.n 32 (omega arith)) ∙ and_mask (c.args.word / 2 ^ c.args.at) c.args.n
