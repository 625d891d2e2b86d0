use Rattle.std.proofs.Common.{length, Some, refl, ap, ◌∙◌}
use Rattle.std.proofs.lemmas.Option.{slice_get_read}
use Rattle.hdl_loops.proofs.Noting.{notes_new, notes_same}
use Rattle.hdl_loops.proofs.find.note.Goals as goal

pub returns-in-Some : goal.returns-in-Some
returns-in-Some c =
    let ks = c.args.known.now in
    notes_same ks c.args.k c.args.inside _ (slice_get_read ks (length ks) c.args.k c.index-known-k.result refl c.requires c.index-known-k.is ∙ (ap Some c.index-known-k.is ∙ ap Some c.in-Some.is))

pub returns-in-None : goal.returns-in-None
returns-in-None c =
    let ks = c.args.known.now in
    notes_new ks _ c.args.k c.args.inside refl c.requires (slice_get_read ks (length ks) c.args.k c.index-known-k.result refl c.requires c.index-known-k.is ∙ (ap Some c.index-known-k.is ∙ ap Some c.in-None.is))
