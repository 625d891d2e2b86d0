use Rattle.std.proofs.Common.{◌≡◌, [], map, sym, ap, subst, ◌∙◌}
use Rattle.std.specs.List.{All, Contains}
use Rattle.script_device.specs.Directory.{FitsNet, LoadedChip}
use Rattle.tst_runner.specs.Directories.{part_nodes}
use Rattle.tst_runner.proofs.building.evaluated.Goals as goal

pub returns-clause-among : goal.returns-clause-among
returns-clause-among c =
    let same : c.eval.new.self.directory.parts ≡ c.in_ok-directory.directory.parts = ap (λ (chip : LoadedChip). chip.directory.parts) (c.eval.ensures.kept ∙ c.in_ok-chip.ensures.chip) in
    subst (All (Contains (map (part_nodes c.args.library.now.entries) c.args.e.parts))) (sym same) c.in_ok-directory.ensures.among

pub driven_chip-requires-clause-fits : goal.driven_chip-requires-clause-fits
driven_chip-requires-clause-fits c = subst (λ net. FitsNet net c.in_ok-directory.directory) (sym c.net_of-net.ensures) (c.requires.fits c.in_ok-directory.directory c.in_ok-directory.ensures.directory c.in_ok-directory.ensures.among)

pub returns-clause-runs : goal.returns-clause-runs
returns-clause-runs c = c.eval.ensures.runs c.args.simplify c.in_ok-chip.ensures.runs

pub returns-clause-driven : goal.returns-clause-driven
returns-clause-driven c = c.eval.ensures.driven [] c.in_ok-chip.ensures.driven
