use Rattle.std.proofs.Common.{◌≡◌, refl, sym, subst}
use Rattle.jack_core.specs.Texts.{names_of}
use Rattle.key_script.specs.Codes.{code_at}
use Rattle.machine_io.specs.Driven.{IsDriven}
use Rattle.machine_io.specs.declared.driving.End.{End}
use Rattle.tower.specs.Mapped.{HasFollowed, image_in}
use Rattle.command_line.specs.declared.request.RunLevel.TheVariants as levels
use Rattle.nand_cli.specs.Commands.Run.{IsReport}
use Rattle.nand_cli.specs.Inner.Reports.{hack_text}
use Rattle.nand_cli.proofs.Computers.{cycled, hack_reported}
use Rattle.nand_cli.proofs.Reporting.{reported_as}
use Rattle.nand_cli.proofs.levels.hack.report_hack.Goals as goal

pub returns-clause-reports : goal.returns-clause-reports
returns-clause-reports g c =
    let code = code_at c.args.keys.now in
    let core = c.args.core.now in
    let old = c.args.machine.now in
    let new = c.report.new.level in
    let Q = IsReport (levels.Hack c.args.show) core code c.args.cycles in
    reported_as (λ t. (end : End) × IsDriven code (HasFollowed old) old.hack.moves c.args.cycles end (HasFollowed new) new.hack.moves × (t ≡ hack_text new (names_of core) end c.args.show)) Q (g.O.Sink.state c.args.out.now) (g.O.Sink.state c.report.new.out) c.report.result
    (λ text (end, driven, is). subst Q (sym is) (hack_reported c.args.cycles c.args.show core (image_in old) new code end c.requires.resolved c.requires.words c.requires.start.image c.report.ensures.program
    (cycled code old new old.hack.moves c.args.cycles _ end driven c.requires.start.stands c.requires.start.moves)))
    c.report.ensures.reports

pub returns-clause-put : goal.returns-clause-put
returns-clause-put g c = c.report.ensures.sure refl
