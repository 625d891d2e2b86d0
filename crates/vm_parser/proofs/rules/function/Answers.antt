use Rattle.grammar.specs.Rules.{both}
use Rattle.vm_parser.proofs.rules.function.Goals as goal

pub returns : goal.returns
returns c =
    let ls = c.in_ok-lines.ensures in (
      record { name = c.in_ok-name.name; locals = c.in_ok-locals.locals; lines = ls.0 },
      (λ i. record { name = c.in_ok-name.name; locals = c.in_ok-locals.locals; lines = ls.1 i }),
      both c.in_ok-rest.ensures (both c.in_ok-name.ensures (both c.in_ok-locals.ensures (both c.in_ok-rest-2.ensures ls.2))),
    )
