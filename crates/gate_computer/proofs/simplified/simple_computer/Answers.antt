use Rattle.std.proofs.Common.{◌<◌, ◌∙◌, length, sym, subst}
use Rattle.std.specs.List.{All}
use Rattle.gate_computer.proofs.Simple.{kept_there}
use Rattle.gate_computer.proofs.simplified.simple_computer.Goals as goal

pub simplify-requires-clause-kept : goal.simplify-requires-clause-kept
simplify-requires-clause-kept c =
    let net = c.args.wired.now.net in
    subst (All (λ k. k < length net.nodes)) (sym (c.deref.ensures.value ∙ c.in_ok-kept.ensures)) (kept_there net c.args.wired.now.wiring c.requires.wired)
