use Rattle.std.proofs.Common.{arith}
use Rattle.std.proofs.lemmas.Option.{slice_get_within}
use Rattle.gate_sim.proofs.leaving.fix_piece.Goals as goal

pub returns-clause-given : goal.returns-clause-given
returns-clause-given c k i t take e at given =
    let end = c.end_of.ensures in
    let inside = slice_get_within c.args.takes.now t take given.there in
    c.fix_some.ensures.given k i t take (omega arith) (omega arith) at given
