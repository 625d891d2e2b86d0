use Rattle.hack_cpu.proofs.Libraries.{libraries}
use Rattle.gate_tests.proofs.chips.answer.Goals as goal

pub elaborate-requires-clause-ends : goal.elaborate-requires-clause-ends
elaborate-requires-clause-ends c = libraries.ends c.args.library.now.entries c.args.memories c.requires
