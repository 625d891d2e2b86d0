use Rattle.nand_cli.proofs.levels.gates.report_gates.Goals as goal

pub report_words-requires-clause-start : goal.report_words-requires-clause-start
report_words-requires-clause-start g c = c.requires.start.start

pub returns-in-Words-clause-reports : goal.returns-in-Words-clause-reports
returns-in-Words-clause-reports g c = rw c.in-Words.is c.report_words.ensures.reports

pub returns-in-Nets-clause-reports : goal.returns-in-Nets-clause-reports
returns-in-Nets-clause-reports g c = rw c.in-Nets.is c.report_nets.ensures.reports
