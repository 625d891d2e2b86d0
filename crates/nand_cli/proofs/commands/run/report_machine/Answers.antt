use Rattle.std.proofs.Common.{subst}
use Rattle.key_script.specs.Codes.{code_at}
use Rattle.command_line.specs.declared.request.RunLevel.TheVariants as levels
use Rattle.nand_cli.specs.Inner.Prepared.{IsAtItsStart}
use Rattle.nand_cli.proofs.FewMoves.{with_few}
use Rattle.nand_cli.proofs.commands.run.report_machine.Goals as goal

pub returns-in-Jack-clause-reports : goal.returns-in-Jack-clause-reports
returns-in-Jack-clause-reports g c = rw c.in-Jack.is (with_few (levels.Jack c.in-Jack.show) c.args.core.now (code_at c.args.keys.now) c.args.cycles (g.O.Sink.state c.args.out.now) (g.O.Sink.state c.report_jack.new.out) c.report_jack.result c.report_jack.ensures.reports)

pub report_vm-requires-clause-start : goal.report_vm-requires-clause-start
report_vm-requires-clause-start g c = subst (IsAtItsStart c.args.core.now) c.in-Vm.is c.requires.start

pub returns-in-Vm-clause-reports : goal.returns-in-Vm-clause-reports
returns-in-Vm-clause-reports g c = rw c.in-Vm.is (with_few (levels.Vm c.in-Vm.show) c.args.core.now (code_at c.args.keys.now) c.args.cycles (g.O.Sink.state c.args.out.now) (g.O.Sink.state c.report_vm.new.out) c.report_vm.result c.report_vm.ensures.reports)

pub report_hack-requires-clause-start : goal.report_hack-requires-clause-start
report_hack-requires-clause-start g c = subst (IsAtItsStart c.args.core.now) c.in-Hack.is c.requires.start

pub returns-in-Hack-clause-reports : goal.returns-in-Hack-clause-reports
returns-in-Hack-clause-reports g c = rw c.in-Hack.is (with_few (levels.Hack c.in-Hack.show) c.args.core.now (code_at c.args.keys.now) c.args.cycles (g.O.Sink.state c.args.out.now) (g.O.Sink.state c.report_hack.new.out) c.report_hack.result c.report_hack.ensures.reports)

pub report_words-requires-clause-start : goal.report_words-requires-clause-start
report_words-requires-clause-start g c =
    let simple = subst (IsAtItsStart c.args.core.now) c.in-Simplified.is c.requires.start in
    simple.start

pub returns-in-Simplified-clause-reports : goal.returns-in-Simplified-clause-reports
returns-in-Simplified-clause-reports g c = rw c.in-Simplified.is (with_few (levels.Simplified c.in-Simplified.show) c.args.core.now (code_at c.args.keys.now) c.args.cycles (g.O.Sink.state c.args.out.now) (g.O.Sink.state c.report_words.new.out) c.report_words.result c.report_words.ensures.reports)

pub report_gates-requires-clause-start : goal.report_gates-requires-clause-start
report_gates-requires-clause-start g c = subst (IsAtItsStart c.args.core.now) c.in-Gates.is c.requires.start

pub returns-in-Gates-clause-reports : goal.returns-in-Gates-clause-reports
returns-in-Gates-clause-reports g c = rw c.in-Gates.is (with_few (levels.Gates c.in-Gates.shown) c.args.core.now (code_at c.args.keys.now) c.args.cycles (g.O.Sink.state c.args.out.now) (g.O.Sink.state c.report_gates.new.out) c.report_gates.result c.report_gates.ensures.reports)

pub report_vm-requires-clause-words : goal.report_vm-requires-clause-words
report_vm-requires-clause-words g c = c.requires.words

pub report_hack-requires-clause-words : goal.report_hack-requires-clause-words
report_hack-requires-clause-words g c = c.requires.words

pub report_words-requires-clause-words : goal.report_words-requires-clause-words
report_words-requires-clause-words g c = c.requires.words

pub report_gates-requires-clause-words : goal.report_gates-requires-clause-words
report_gates-requires-clause-words g c = c.requires.words
