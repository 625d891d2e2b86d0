use Rattle.gate_computer.proofs.prepare.computer_for.Goals as goal

pub returns-clause-simple : goal.returns-clause-simple
returns-clause-simple c = λ asked. record { whole = c.in_ok-whole.whole.net; full = c.in_ok-whole.whole.wiring; wired = c.in_ok-whole.ensures.wired; simple = c.in_ok-simple.ensures }
