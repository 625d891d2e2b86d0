use Rattle.gate_computer.proofs.computer.words_fit.Goals as goal

pub returns : goal.returns
returns c a = (c.type_inv.words a).fits
