use Rattle.std.proofs.Common.{Bool, ◌<◌, length, sym, subst}
use Rattle.std.specs.Prelude.{IfOk}
use Rattle.script_device.specs.Driven.{ChipRuns}
use Rattle.script_device.proofs.Named.{fits_named}
use Rattle.tst_runner.proofs.building.driven_chip.Goals as goal

pub returns-then-simplify-clause-runs : goal.returns-then-simplify-clause-runs
returns-then-simplify-clause-runs c =
    let P : Bool → Type 0 = λ s. IfOk c.simplified.result (ChipRuns s) in
    subst P (sym c.if-simplify.true) c.simplified.ensures.runs

pub returns-else-simplify-clause-runs : goal.returns-else-simplify-clause-runs
returns-else-simplify-clause-runs c =
    let P : Bool → Type 0 = λ s. IfOk c.new.result (ChipRuns s) in
    subst P (sym c.if-simplify.false) c.new.ensures.runs

pub simplified-requires-clause-there : goal.simplified-requires-clause-there
simplified-requires-clause-there c = fits_named (λ k. k < length c.args.net.nodes) c.args.net (λ k less. less) c.args.directory c.requires.fits

pub new-requires : goal.new-requires
new-requires c = fits_named (λ k. k < length c.args.net.nodes) c.args.net (λ k less. less) c.args.directory c.requires.fits
