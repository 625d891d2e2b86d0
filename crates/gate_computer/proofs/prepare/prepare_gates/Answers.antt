use Rattle.gate_computer.proofs.Simple.{begins_simple}
use Rattle.gate_computer.proofs.prepare.prepare_gates.Goals as goal

pub returns-clause-simple : goal.returns-clause-simple
returns-clause-simple c =
    begins_simple c.args.simplify c.in_ok-wired.wired.net c.in_ok-wired.wired.wiring c.new.result c.in_ok-wired.ensures.simple c.new.ensures.net c.new.ensures.wiring
