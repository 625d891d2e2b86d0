use Rattle.std.proofs.Common.{ℕ, subst, ◌∙◌}
use Rattle.machine_io.specs.declared.driving.End.{End}
use Rattle.machine_io.specs.declared.driving.End.TheVariants as ends
use Rattle.jack_compiler.proofs.Calls.{calls_are_there}
use Rattle.nand_cli.specs.Commands.SoakLevels.{no_keys}
use Rattle.nand_cli.specs.Inner.Reports.{HasRun}
use Rattle.nand_cli.specs.Inner.SoakParts.{view_in}
use Rattle.nand_cli.proofs.SoakJack.{all_steps, fewer_steps}
use Rattle.nand_cli.proofs.SoakOutcome.{gates_seen}
use Rattle.nand_cli.proofs.Stepping.{ran}
use Rattle.nand_cli.proofs.soak.is_at_jack.Goals as goal

pub new-requires : goal.new-requires
new-requires c = record { there = calls_are_there c.args.core.now c.requires }

pub returns-in-Bound : goal.returns-in-Bound
returns-in-Bound c =
    let gates = c.args.gates.now in
    let old = c.in_ok-jack.jack in
    let new = c.drive.new.level in
    let run : HasRun no_keys c.args.m new c.in_ok-drive.field-0 =
    subst (λ (n : ℕ). HasRun no_keys n new c.in_ok-drive.field-0) c.from.ensures (ran no_keys old new c.from.result c.in_ok-drive.field-0 c.in_ok-drive.ensures.driven c.in_ok-jack.ensures.stands c.in_ok-jack.ensures.moves) in
    let whole : HasRun no_keys c.args.m new ends.Bound = subst (λ (e : End). HasRun no_keys c.args.m new e) c.in-Bound.is run in
    all_steps new c.args.core.now c.args.m (view_in gates) _ (gates_seen gates) (c.in_ok-drive.ensures.program ∙ c.in_ok-jack.ensures.core) whole c.show_same.result c.show_same.ensures

pub returns : goal.returns
returns c =
    let gates = c.args.gates.now in
    let old = c.in_ok-jack.jack in
    let new = c.drive.new.level in
    let run : HasRun no_keys c.args.m new c.in_ok-drive.field-0 =
    subst (λ (n : ℕ). HasRun no_keys n new c.in_ok-drive.field-0) c.from.ensures (ran no_keys old new c.from.result c.in_ok-drive.field-0 c.in_ok-drive.ensures.driven c.in_ok-jack.ensures.stands c.in_ok-jack.ensures.moves) in (
      λ e. let no : ⊥ = cc in absurd no,
      λ h. absurd (fewer_steps new c.args.core.now c.args.m c.in_ok-drive.field-0 (view_in gates) (c.in_ok-drive.ensures.program ∙ c.in_ok-jack.ensures.core) run c.in_default.not-Bound h),
    )
