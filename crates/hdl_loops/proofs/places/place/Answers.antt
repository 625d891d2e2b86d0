use Rattle.std.proofs.Common.{◌∙◌}
use Rattle.hdl_check.proofs.Places.{place_found}
use Rattle.hdl_loops.proofs.Placing.{place_numbered}
use Rattle.hdl_loops.proofs.places.place.Goals as goal

pub returns-clause-value : goal.returns-clause-value
returns-clause-value c = λ entries placed. c.find.ensures ∙ placed.named c.args.name.now ∙ place_numbered entries c.args.name.now

pub returns-clause-found : goal.returns-clause-found
returns-clause-found c = λ entries placed. place_found entries c.args.name.now c.find.result (c.find.ensures ∙ placed.named c.args.name.now)
