use Rattle.std.proofs.Common.{rules}
use Rattle.outside_tests.proofs.reports.show_level.Goals as goal

pub returns : goal.returns
returns g c = c.show_words.ensures.put (g.L.Level.reading c.args.level.now).word (λ a w from_on up_to p. search rules)
