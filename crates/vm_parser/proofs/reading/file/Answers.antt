use Rattle.grammar.specs.Rules.{both}
use Rattle.vm_parser.proofs.reading.file.Goals as goal

pub returns : goal.returns
returns c =
    let o = c.in_ok-opening.ensures in
    let fs = c.in_ok-functions.ensures in (
      record { opening = o.0; functions = fs.0 },
      (λ i. record { name = c.args.name; opening = o.1 i; functions = fs.1 i }),
      both o.2 (both fs.2 c.in_ok-finish.ensures),
    )
