use Rattle.std.proofs.Common.{arith}
use Rattle.std.proofs.lemmas.Option.{slice_get-get_or}
use Rattle.gate_sim.proofs.takes.is_served_by.Goals as goal

pub returns : goal.returns
returns c e =
    let there = slice_get-get_or c.args.takes.now c.args.j (record { slot = 0; source = 0; down = 0; mask = 0 }) (omega arith) in
    let served = c.serves.ensures e in
    (c.args.j, _, there, served.0, served.1)
