use Rattle.std.proofs.Common.{◌∙◌}
use Rattle.hdl_check.proofs.catalog.Catalog.place.Goals as goal
use Rattle.hdl_check.proofs.Places.{place_found}

pub returns : goal.returns
returns c = place_found c.args.self.now.entries.now c.args.name.now c.find.result (c.find.ensures ∙ c.requires.named c.args.name.now)
