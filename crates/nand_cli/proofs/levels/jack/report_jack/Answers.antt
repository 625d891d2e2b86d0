use Rattle.std.proofs.Common.{◌≡◌, sym, subst, ◌∙◌}
use Rattle.jack_core.specs.Texts.{names_of}
use Rattle.jack_compiler.proofs.Calls.{calls_are_there}
use Rattle.jack_machine.specs.Whole.{Stands}
use Rattle.key_script.specs.Codes.{code_at}
use Rattle.machine_io.specs.Driven.{IsDriven}
use Rattle.machine_io.specs.declared.driving.End.{End}
use Rattle.command_line.specs.declared.request.RunLevel.TheVariants as levels
use Rattle.nand_cli.specs.Commands.Run.{IsReport}
use Rattle.nand_cli.specs.Inner.Reports.{jack_text}
use Rattle.nand_cli.proofs.Reporting.{reported, reported_as}
use Rattle.nand_cli.proofs.Stepping.{ran}
use Rattle.nand_cli.proofs.levels.jack.report_jack.Goals as goal

pub new-requires : goal.new-requires
new-requires g c = record { there = calls_are_there c.args.core.now c.requires }

pub returns-clause-reports : goal.returns-clause-reports
returns-clause-reports g c =
    let code = code_at c.args.keys.now in
    let core = c.args.core.now in
    let old = c.in_ok-jack.jack in
    let new = c.report.new.level in
    let Q = IsReport (levels.Jack c.args.show) core code c.args.cycles in
    reported_as (λ t. (end : End) × IsDriven code (Stands old) old.moves c.args.cycles end (Stands new) new.moves × (t ≡ jack_text new (names_of core) end c.args.show)) Q (g.O.Sink.state c.args.out.now) (g.O.Sink.state c.report.new.out) c.report.result
    (λ text (end, driven, is). subst Q (sym is) (reported c.args.cycles c.args.show core new code end (c.report.ensures.program ∙ c.in_ok-jack.ensures.core) (ran code old new c.args.cycles end driven c.in_ok-jack.ensures.stands c.in_ok-jack.ensures.moves)))
    c.report.ensures.reports
