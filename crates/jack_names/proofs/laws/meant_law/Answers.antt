use Rattle.jack_names.proofs.MeantWholly.{program_same, names_are}
use Rattle.jack_names.proofs.laws.meant_law.Goals as goal

pub returns : goal.returns
returns c = record { program = program_same; names = names_are }
