use Rattle.std.proofs.Common.{◌≡◌, ◌+◌, ◌/◌, ◌%◌, ◌^◌, ap, ◌∙◌, arith, nat_eq}
use Rattle.std.proofs.lemmas.Nat.{shr-shr}
use Rattle.gate_sim.proofs.leaving.lower.Goals as goal

pub returns : goal.returns
returns c l =
    let e : c.args.down + l ≡ l + c.args.down = omega arith in
    ap (λ n. nat_eq (n % 2) 1) (shr-shr c.args.value c.args.down l ∙ ap (λ k. c.args.value / 2 ^ k) e)
