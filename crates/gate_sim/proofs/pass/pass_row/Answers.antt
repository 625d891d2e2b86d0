use Rattle.gate_sim.proofs.Addresses.{side_there}
use Rattle.gate_sim.proofs.pass.pass_row.Goals as goal

pub is_row_moved-requires-clause-side : goal.is_row_moved-requires-clause-side
is_row_moved-requires-clause-side g c = side_there c.args.places.now c.args.q c.args.blocks.now c.args.b c.args.first c.requires.block c.requires.side

pub word_in_row-word-requires-clause-side : goal.word_in_row-word-requires-clause-side
word_in_row-word-requires-clause-side g c = side_there c.args.places.now c.args.q c.args.blocks.now c.args.b c.args.first c.requires.block c.requires.side
