use Rattle.std.proofs.Common.{◌+◌, ap}
use Rattle.hack_machine.proofs.Runs.{has_run_more}
use Rattle.hack_machine.specs.Changes.{Press}
use Rattle.hack_machine.proofs.Changes.{changed_more}
use Rattle.hack_machine.proofs.Hack.step.Goals as goal

pub returns-clause-run : goal.returns-clause-run
returns-clause-run c =
    let image = rw (← c.self.view_is) at c.perform.ensures.image in
    let moves = rw (← c.self.view_is) at c.perform.ensures.moves in
    let stepped = rw (← c.self.view_is) at c.perform.ensures.step in
    λ keys ran. has_run_more _ _ keys _ image (ap (λ n. n + 1) moves) stepped ran

pub returns-clause-changed : goal.returns-clause-changed
returns-clause-changed c =
    let image = rw (← c.self.view_is) at c.perform.ensures.image in
    let moves = rw (← c.self.view_is) at c.perform.ensures.moves in
    let stepped = rw (← c.self.view_is) at c.perform.ensures.step in
    λ changes has. changed_more _ _ changes (Press _) image (ap (λ n. n + 1) moves) stepped has
