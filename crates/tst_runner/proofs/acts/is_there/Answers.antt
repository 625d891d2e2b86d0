use Rattle.std.proofs.Common.{sym, ◌∙◌}
use Rattle.std.specs.Cmp.Lexicographic.{bytes_decides}
use Rattle.tst_runner.proofs.acts.is_there.Goals as goal

pub returns-then-eq-clause-there : goal.returns-then-eq-clause-there
returns-then-eq-clause-there c =
    let same = sym c.as_slice.ensures.value ∙ (bytes_decides c.as_slice.result.now c.args.file.now).0 (sym c.eq.ensures ∙ c.if-eq.true) in (
      λ t. record { name = c.in-Some.loaded; loaded = c.in-Some.is; same = same; runs = c.is_chip.ensures.exact.0 t },
      λ there. c.is_chip.ensures.exact.1 there.runs,
    )
