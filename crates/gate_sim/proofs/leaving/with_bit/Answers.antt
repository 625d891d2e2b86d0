use Rattle.std.proofs.Common.{sym, ◌∙◌}
use Rattle.gate_sim.proofs.Lanes.{has_set, has_kept, cleared_here, cleared_other}
use Rattle.gate_sim.proofs.leaving.with_bit.Goals as goal

pub returns-then-bit-clause-here : goal.returns-then-bit-clause-here
returns-then-bit-clause-here c = has_set c.args.word c.args.l c.requires ∙ sym c.if-bit.true

pub returns-then-bit-clause-others : goal.returns-then-bit-clause-others
returns-then-bit-clause-others c m small ne = has_kept c.args.word c.args.l m c.requires ne

pub returns-else-bit-clause-here : goal.returns-else-bit-clause-here
returns-else-bit-clause-here c = cleared_here c.args.word c.args.l c.requires ∙ sym c.if-bit.false

pub returns-else-bit-clause-others : goal.returns-else-bit-clause-others
returns-else-bit-clause-others c m small ne = cleared_other c.args.word c.args.l m c.requires small ne
