use Rattle.std.proofs.Common.{List, ℕ, ◌⊎◌, subst}
use Rattle.outer_world.specs.Files.{LacksFolder}
use Rattle.source_files.specs.Loads.{Loads}
use Rattle.script_device.specs.declared.chip.DrivenChip.{DrivenChip}
use Rattle.script_device.specs.Driven.{chip_of}
use Rattle.tst_runner.specs.Setting.{folder_of, setting_of}
use Rattle.tst_runner.specs.Gathering.{file_of}
use Rattle.tst_runner.specs.Loading.{IsBuilt, IsUnknown, IsFaulty, IsNotLoaded}
use Rattle.tst_runner.specs.Inner.Loaded.{ChipIsLoaded}
use Rattle.tst_runner.proofs.Loaded.{CountsLoad-built, Loads-chip}
use Rattle.tst_runner.proofs.loading.load_chip.Goals as goal

pub returns-clause-loads : goal.returns-clause-loads
returns-clause-loads g c =
    let files = (g.F.Shelf.state c.args.shelf.now).files in
    let setting = setting_of c.args.script.path.now files c.args.script.memories in
    let unfailing = (g.F.Shelf.state c.args.shelf.now).unfailing in
    let missed = unfailing → LacksFolder files (g.F.Shelf.state c.args.shelf.now).there (folder_of c.args.script.path.now) in
    let N : List ℕ → Type 0 = λ name. Loads (ChipIsLoaded setting (file_of name)) (IsNotLoaded setting (file_of name)) missed c.build_chip.result in
    subst N c.in_ok-name.ensures (Loads-chip setting c.in_ok-name.name c.in_ok-library.library.entries missed c.build_chip.result c.in_ok-library.ensures.loads (c.build_chip.ensures.loads files) c.build_chip.ensures.driven)

pub returns-clause-counts : goal.returns-clause-counts
returns-clause-counts g c =
    let files = (g.F.Shelf.state c.args.shelf.now).files in
    let setting = setting_of c.args.script.path.now files c.args.script.memories in
    let unfailing = (g.F.Shelf.state c.args.shelf.now).unfailing in
    let name = c.in_ok-name.name in
    let entries = c.in_ok-library.library.entries in
    CountsLoad-built (λ (chip : DrivenChip). IsBuilt setting entries name (chip_of chip)) (λ line. IsUnknown setting entries name line ⊎ IsFaulty setting entries name line)
    (g.F.Shelf.faults c.args.shelf.now) (g.F.Shelf.faults c.gather.new.shelf) c.build_chip.result c.in_ok-library.ensures.counts (c.build_chip.ensures.loads files)
