use Rattle.std.proofs.Common.{◌∙◌}
use Rattle.name_table.proofs.Entries.{entry_at}
use Rattle.name_table.proofs.Table.find.Goals as goal

pub returns : goal.returns
returns g c = c.copied.ensures ∙ c.get.ensures.value ∙ entry_at c.args.name.now c.args.self.now.entries.entries
