use Rattle.std.proofs.Common.{◌∙◌}
use Rattle.hack_asm.proofs.Entries.{entry_at}
use Rattle.hack_asm.proofs.symbols.Symbols.entry.Goals as goal

pub returns : goal.returns
returns c = c.copied.ensures ∙ c.get.ensures.value ∙ entry_at c.args.name.now c.args.self.now.entries.entries
