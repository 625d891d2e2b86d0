use Rattle.std.proofs.Common.{List, ℕ, subst}
use Rattle.outer_world.specs.Refusals.{message_line}
use Rattle.outer_world.specs.Written.{Puts}
use Rattle.nand_cli.proofs.failure.tell_refusal.Goals as goal

pub returns : goal.returns
returns g c =
    let refusal = c.args.refusal.now in
    let P : List ℕ → Type 0 = λ path. Puts (g.E.Sink.state c.args.err.now) (g.E.Sink.state c.put.new.sink) (message_line path refusal.diagnostic) c.put.result in
    subst P c.as_str.ensures c.put.ensures.put
