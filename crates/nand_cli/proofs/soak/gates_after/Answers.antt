use Rattle.std.proofs.Common.{ℕ, subst, arith}
use Rattle.gate_computer.specs.Followed.{HasFollowed}
use Rattle.machine_io.specs.History.{moves_from}
use Rattle.nand_cli.specs.Commands.SoakLevels.{no_keys}
use Rattle.nand_cli.proofs.OnGates.{HasTurned, turned}
use Rattle.nand_cli.proofs.SoakOutcome.{few_steps}
use Rattle.nand_cli.proofs.soak.gates_after.Goals as goal

pub returns-clause-followed : goal.returns-clause-followed
returns-clause-followed c =
    let old = c.in_ok-gates.gates in
    let new = c.drive.new.level in
    let went : HasTurned no_keys c.cycles.result new c.in_ok-drive.field-0 =
    turned no_keys old new old.moves c.cycles.result new.moves c.in_ok-drive.field-0 c.in_ok-drive.ensures.driven c.in_ok-gates.ensures.stands c.in_ok-gates.ensures.moves in
    subst (λ (n : ℕ). HasFollowed new (moves_from no_keys 0 n)) c.cycles.ensures.value went.followed

pub returns-clause-few : goal.returns-clause-few
returns-clause-few c =
    let old = c.in_ok-gates.gates in
    let new = c.drive.new.level in
    let went : HasTurned no_keys c.cycles.result new c.in_ok-drive.field-0 =
    turned no_keys old new old.moves c.cycles.result new.moves c.in_ok-drive.field-0 c.in_ok-drive.ensures.driven c.in_ok-gates.ensures.stands c.in_ok-gates.ensures.moves in
    let few = few_steps new c.cycles.result went.followed in
    let all = c.cycles.ensures.few in
    omega (arith, few, all)
