use Rattle.std.proofs.Common.{ℕ, Vec}
use Rattle.std.specs.declared.alloc.Global.{Global}
use Rattle.std.proofs.lemmas.Result.{err_from_is_err_and}
use Rattle.outer_world.specs.Files.{LacksFile}
use Rattle.source_files.specs.Sources.{IsFaulty, IsPastLimit, IsText, SpellsAt}
use Rattle.source_files.proofs.Told.{long_faulty, without}
use Rattle.source_files.proofs.loading.load.Goals as goal

pub returns-in_err-text-clause-loads : goal.returns-in_err-text-clause-loads
returns-in_err-text-clause-loads g c =
    let p = err_from_is_err_and c.from_residual.result c.from_residual.ensures.1 in
    let files = (g.F.Shelf.state c.args.shelf.now).files in
    let path = c.args.path.now in
    let missed = (g.F.Shelf.state c.args.shelf.now).unfailing → LacksFile files path in
    rw (p.1, p.2) (without (λ (text : Vec ℕ Global). IsText files path text.items) (IsPastLimit files path) missed
    (SpellsAt (g.L.Language.spells c.args.language.now c.args.name.now) files path) (IsFaulty (g.L.Language.refuses c.args.language.now) files path) missed _
    (λ line h. long_faulty (g.L.Language.refuses c.args.language.now) files path line (g.met.L.Language.limited c.args.language.now) h) (λ h. h) c.in_err-text.ensures.loads)
