use Rattle.std.proofs.Common.{length, Some, refl, ap, ◌∙◌}
use Rattle.std.proofs.lemmas.Option.{slice_get_read}
use Rattle.hdl_loops.proofs.find.is_known.Goals as goal

pub returns-in-Some : goal.returns-in-Some
returns-in-Some c = λ t. (_, slice_get_read c.args.known.now (length c.args.known.now) c.args.k c.index-known-k.result refl c.requires c.index-known-k.is ∙ ap Some c.in-Some.is)
