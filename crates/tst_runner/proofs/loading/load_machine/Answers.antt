use Rattle.std.proofs.Common.{ℕ, Vec, ap, ◌∙◌}
use Rattle.std.specs.declared.alloc.Global.{Global}
use Rattle.std.proofs.lemmas.Result.{err_from_is_err_and}
use Rattle.outer_world.specs.Files.{LacksFile}
use Rattle.tst_runner.specs.Setting.{path_of, setting_of}
use Rattle.tst_runner.specs.Loading.{IsImage, IsNoImage}
use Rattle.script_device.specs.Machines.{loaded_machine}
use Rattle.tst_runner.specs.Inner.Loaded.{MachineIsLoaded}
use Rattle.tst_runner.proofs.Loaded.{Loads-err}
use Rattle.tst_runner.proofs.loading.load_machine.Goals as goal

pub returns-in_err-image-clause-loads : goal.returns-in_err-image-clause-loads
returns-in_err-image-clause-loads g c =
    let p = err_from_is_err_and c.from_residual.result c.from_residual.ensures.1 in
    let files = (g.F.Shelf.state c.args.shelf.now).files in
    let setting = setting_of c.args.script.path.now files c.args.script.memories in
    let unfailing = (g.F.Shelf.state c.args.shelf.now).unfailing in
    let missed = unfailing → LacksFile files (path_of setting c.args.file.now) in
    rw (p.1, p.2) (Loads-err (λ (words : Vec ℕ Global). IsImage setting c.args.file.now words.items) (MachineIsLoaded setting c.args.file.now) (IsNoImage setting c.args.file.now) (IsNoImage setting c.args.file.now) missed missed
    c.in_err-image.field-0.0 (λ line k. k) (λ m. m) (c.in_err-image.ensures.loads c.args.script.memories))

pub returns-clause-loads : goal.returns-clause-loads
returns-clause-loads g c = (c.in_ok-image.image.items, c.in_ok-image.ensures.loads c.args.script.memories, c.in_ok-new.ensures ∙ ap loaded_machine c.deref.ensures.value)
