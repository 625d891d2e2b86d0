use Rattle.std.proofs.Common.{ap, refl}
use Rattle.key_script.specs.Codes.{code_at}
use Rattle.command_line.specs.declared.request.Shown.TheVariants.{Words}
use Rattle.image_map.specs.declared.map.Image.{Image}
use Rattle.gate_computer.specs.declared.wiring.Wiring.{Wiring}
use Rattle.nand_cli.specs.Commands.Gates.{IsGatesReport}
use Rattle.nand_cli.proofs.OnGates.{IsToldOf, with_words}
use Rattle.nand_cli.proofs.Reporting.{reported_as}
use Rattle.nand_cli.proofs.levels.gates.report_words.Goals as goal

pub returns-clause-reports : goal.returns-clause-reports
returns-clause-reports g c =
    let code = code_at c.args.keys.now in
    let core = c.args.core.now in
    let old = c.args.computer.now in
    let new = c.report.new.level in
    let same = ap (λ (p : Image × Wiring). p.0) c.report.ensures.program in
    reported_as (IsToldOf core code c.args.cycles c.requires.resolved c.requires.words old new c.requires.start same c.args.show)
    (IsGatesReport core code c.args.cycles (Words c.args.show)) (g.O.Sink.state c.args.out.now) (g.O.Sink.state c.report.new.out) c.report.result
    (with_words core code c.args.cycles c.requires.resolved c.requires.words old new c.requires.start same c.args.show)
    c.report.ensures.reports

pub returns-clause-put : goal.returns-clause-put
returns-clause-put g c = c.report.ensures.sure refl
