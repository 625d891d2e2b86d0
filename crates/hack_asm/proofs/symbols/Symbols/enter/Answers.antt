use Rattle.std.proofs.Common.{◌∙◌, ap, map}
use Rattle.hack_asm.specs.Entered.{seen_entry}
use Rattle.hack_asm.proofs.Entries.{entered_at}
use Rattle.hack_asm.proofs.symbols.Symbols.enter.Goals as goal

pub returns-in-Ok : goal.returns-in-Ok
returns-in-Ok c = ap (map seen_entry) c.in-Ok.ensures.entries ∙ entered_at c.args.name c.args.address c.args.self.now.entries.entries c.requires
