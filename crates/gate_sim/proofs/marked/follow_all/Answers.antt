use Rattle.std.proofs.Common.{◌+◌, arith, sym, ◌∙◌, length}
use Rattle.std.proofs.lemmas.Bool.{false≢true}
use Rattle.gate_sim.specs.Inner.Pieces.{piece_of, pieces_in, take_mark}
use Rattle.gate_sim.proofs.Idle.{given_none}
use Rattle.gate_sim.proofs.marked.follow_all.Goals as goal

pub returns-then-is_small-clause-idle : goal.returns-then-is_small-clause-idle
returns-then-is_small-clause-idle g c e = absurd (false≢true (sym e ∙ c.if-is_small.true))

pub returns-then-is_small-clause-still : goal.returns-then-is_small-clause-still
returns-then-is_small-clause-still g c e = absurd (false≢true (sym e ∙ c.if-is_small.true))

pub returns-then-is_small-clause-given : goal.returns-then-is_small-clause-given
returns-then-is_small-clause-given g c fixed given =
    given_none c.args.nodes.now c.args.places.now c.args.takes.now (take_mark (pieces_in (length c.args.ops.now)) c.mark_all.new.marks) _ fixed
    (λ t less. let marked = c.requires.marks in c.mark_all.ensures (pieces_in (length c.args.ops.now) + piece_of t) (omega arith))
