use Rattle.std.proofs.Common.{List, Vec, Global, codes, sym, subst}
use Rattle.std.proofs.lemmas.Result.{err_from_is_err_and}
use Rattle.outer_world.specs.Files.{LacksFolder}
use Rattle.vm_tree.specs.declared.program.File.{File}
use Rattle.source_files.specs.Sources.{FolderSpells, IsUnread}
use Rattle.source_files.proofs.Told.{without}
use Rattle.vm_parser.specs.Language.{RefusesVm, SpellsVmFile}
use Rattle.nand_cli.specs.Commands.Vm.{HasProgram, VmRefuses, unread}
use Rattle.nand_cli.proofs.commands.vm.load_program.Goals as goal

pub returns-in_err-files-clause-loads : goal.returns-in_err-files-clause-loads
returns-in_err-files-clause-loads g c =
    let p = err_from_is_err_and c.from_residual.result c.from_residual.ensures.1 in
    let told = (g.F.Shelf.state c.args.shelf.now).files in
    let folder = c.args.folder.now in
    let bare = c.args.bare in
    let missed = (g.F.Shelf.state c.args.shelf.now).unfailing → LacksFolder told (g.F.Shelf.state c.args.shelf.now).there folder in
    rw (p.1, p.2) (without (λ (files : Vec File Global). FolderSpells (SpellsVmFile bare) (codes ".vm") told folder files.items) (IsUnread (SpellsVmFile bare) (RefusesVm bare) (codes ".vm") told folder) missed
    (HasProgram bare told folder) (VmRefuses told folder bare) missed _ (λ line h. unread h) (λ h. h) c.in_err-files.ensures.loads)

pub returns-clause-loads : goal.returns-clause-loads
returns-clause-loads g c =
    let P : List File → Type 0 = λ program. HasProgram c.args.bare (g.F.Shelf.state c.args.shelf.now).files c.args.folder.now program in
    subst P (sym c.of.ensures) c.in_ok-files.ensures.loads
