use Rattle.std.proofs.Common.{◌≡◌, ℕ, subst, ◌∙◌}
use Rattle.tower.specs.Mapped.{StandsAt, image_in}
use Rattle.nand_cli.specs.Commands.Soak.{cycles}
use Rattle.nand_cli.specs.Commands.SoakLevels.{hack_view, no_keys}
use Rattle.nand_cli.specs.Inner.SoakParts.{view_in}
use Rattle.nand_cli.proofs.Computers.{cycled}
use Rattle.nand_cli.proofs.SoakOutcome.{gates_seen, hack_seen}
use Rattle.nand_cli.proofs.SoakViews.{told_alike}
use Rattle.nand_cli.proofs.soak.is_at_hack.Goals as goal

pub returns : goal.returns
returns c =
    let gates = c.args.gates.now in
    let old = c.in_ok-hack.hack in
    let new = c.drive.new.level in
    let at : StandsAt new no_keys c.cycles.result =
    (cycled no_keys old new old.hack.moves c.cycles.result new.hack.moves c.in_ok-drive.field-0 c.in_ok-drive.ensures.driven c.in_ok-hack.ensures.stands c.in_ok-hack.ensures.moves).1 in
    let stands : StandsAt new no_keys cycles = subst (λ (n : ℕ). StandsAt new no_keys n) c.cycles.ensures.value at in
    let same : image_in new ≡ c.args.image = c.in_ok-drive.ensures.program ∙ c.in_ok-hack.ensures.image in
    told_alike (view_in gates) (hack_view c.args.image cycles) _ _ (gates_seen gates) (hack_seen new c.args.image cycles same stands) c.show_same.result c.show_same.ensures
