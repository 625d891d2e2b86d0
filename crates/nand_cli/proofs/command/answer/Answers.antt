use Rattle.nand_cli.proofs.command.answer.Goals as goal

pub returns-in-Classes-clause-does : goal.returns-in-Classes-clause-does
returns-in-Classes-clause-does g c = rw c.in-Classes.is (c.answer_classes.ensures.does (g.E.Sink.state c.args.err.now))

pub returns-in-Classes-clause-counts : goal.returns-in-Classes-clause-counts
returns-in-Classes-clause-counts g c = rw c.in-Classes.is (c.answer_classes.ensures.counts (g.E.Sink.state c.args.err.now))

pub returns-in-File-clause-does : goal.returns-in-File-clause-does
returns-in-File-clause-does g c = rw c.in-File.is (c.answer_file.ensures.does (g.E.Sink.state c.args.err.now))

pub returns-in-File-clause-counts : goal.returns-in-File-clause-counts
returns-in-File-clause-counts g c = rw c.in-File.is (c.answer_file.ensures.counts (g.E.Sink.state c.args.err.now))

pub returns-in-Vm-clause-does : goal.returns-in-Vm-clause-does
returns-in-Vm-clause-does g c = rw c.in-Vm.is (c.answer_vm.ensures.does (g.E.Sink.state c.args.err.now))

pub returns-in-Vm-clause-counts : goal.returns-in-Vm-clause-counts
returns-in-Vm-clause-counts g c = rw c.in-Vm.is (c.answer_vm.ensures.counts (g.E.Sink.state c.args.err.now))

pub returns-in-Chip-clause-does : goal.returns-in-Chip-clause-does
returns-in-Chip-clause-does g c = rw c.in-Chip.is (c.answer_chip.ensures.does (g.E.Sink.state c.args.err.now))

pub returns-in-Chip-clause-counts : goal.returns-in-Chip-clause-counts
returns-in-Chip-clause-counts g c = rw c.in-Chip.is (c.answer_chip.ensures.counts (g.E.Sink.state c.args.err.now))

pub returns-in-Test-clause-does : goal.returns-in-Test-clause-does
returns-in-Test-clause-does g c = rw c.in-Test.is c.answer_test.ensures.does

pub returns-in-Test-clause-counts : goal.returns-in-Test-clause-counts
returns-in-Test-clause-counts g c = rw c.in-Test.is c.answer_test.ensures.counts

pub returns-in-Soak-clause-does : goal.returns-in-Soak-clause-does
returns-in-Soak-clause-does g c = rw c.in-Soak.is (c.answer_soak.ensures.does (g.E.Sink.state c.args.err.now))

pub returns-in-Soak-clause-counts : goal.returns-in-Soak-clause-counts
returns-in-Soak-clause-counts g c = rw c.in-Soak.is (c.answer_soak.ensures.counts (g.E.Sink.state c.args.err.now))
