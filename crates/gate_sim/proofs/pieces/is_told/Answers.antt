use Rattle.gate_sim.proofs.pieces.is_told.Goals as goal

pub returns : goal.returns
returns c e =
    let found = c.is_between.ensures e in
    record { place = found.0; from = found.1; end = found.2; inside = found.3; same = found.4 }
