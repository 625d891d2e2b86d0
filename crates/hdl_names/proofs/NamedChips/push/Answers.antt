use Rattle.std.proofs.Common.{◌∙◌}
use Rattle.hdl_names.proofs.Tabling.{indexed_more}
use Rattle.hdl_names.proofs.NamedChips.push.Goals as goal

pub returns-clause-indexed : goal.returns-clause-indexed
returns-clause-indexed c =
    indexed_more c.args.self.now c.insert.new.self.keys c.push.new.self.items c.in_ok-name.name c.args.entry (c.in_ok-name.ensures.items ∙ c.as_bytes.ensures) c.in-Ok.ensures.keys c.in_ok-push.ensures.items c.requires
