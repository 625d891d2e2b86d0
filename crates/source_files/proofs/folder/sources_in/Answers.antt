use Rattle.std.proofs.Common.{ℕ, List, Vec}
use Rattle.std.specs.declared.alloc.Global.{Global}
use Rattle.std.proofs.lemmas.Result.{err_from_is_err_and}
use Rattle.outer_world.specs.Files.{LacksFolder}
use Rattle.source_files.specs.Folder.{AreNames, AreSources, IsOverfull}
use Rattle.source_files.proofs.Told.{without}
use Rattle.source_files.proofs.folder.sources_in.Goals as goal

pub returns-in_err-names-clause-loads : goal.returns-in_err-names-clause-loads
returns-in_err-names-clause-loads g c =
    let p = err_from_is_err_and c.from_residual.result c.from_residual.ensures.1 in
    let files = (g.F.Shelf.state c.args.shelf.now).files in
    let missed = (g.F.Shelf.state c.args.shelf.now).unfailing → LacksFolder files (g.F.Shelf.state c.args.shelf.now).there c.args.folder.now in
    rw (p.1, p.2) (without (λ (names : Vec (List ℕ) Global). AreNames files c.args.folder.now c.args.ending.now names.items) (λ _. ⊥) missed
    (λ (names : Vec (List ℕ) Global). AreSources files c.args.folder.now c.args.ending.now names.items) (IsOverfull files c.args.folder.now c.args.ending.now) missed _
    (λ line h. absurd h) (λ h. h) c.in_err-names.ensures.loads)
