use Rattle.std.proofs.Common.{◌≡◌, refl, sym, subst}
use Rattle.jack_core.specs.Texts.{names_of}
use Rattle.key_script.specs.Codes.{code_at}
use Rattle.machine_io.specs.Driven.{IsDriven}
use Rattle.machine_io.specs.declared.driving.End.{End}
use Rattle.vm_machine.specs.Loaded.{HasTaken}
use Rattle.tower.specs.VmRun.{IsVmCodeOf}
use Rattle.tower.proofs.VmRuns.{driven}
use Rattle.nand_cli.specs.Commands.RunVm.{IsVmReport}
use Rattle.nand_cli.proofs.OnVm.{vm_reported, vm_text}
use Rattle.nand_cli.proofs.Reporting.{reported_as}
use Rattle.nand_cli.proofs.levels.vm.report_vm.Goals as goal

pub returns-clause-reports : goal.returns-clause-reports
returns-clause-reports g c =
    let code = code_at c.args.keys.now in
    let core = c.args.core.now in
    let old = c.args.vm.now in
    let new = c.report.new.level in
    let Q = IsVmReport core code c.args.cycles c.args.show in
    reported_as (λ t. (end : End) × IsDriven code (HasTaken old) old.moves c.args.cycles end (HasTaken new) new.moves × (t ≡ vm_text new (names_of core) end c.args.show)) Q (g.O.Sink.state c.args.out.now) (g.O.Sink.state c.report.new.out) c.report.result
    (λ text (end, by, is). subst Q (sym is) (vm_reported c.args.cycles c.args.show core new code end c.requires.resolved c.requires.words
    (subst (IsVmCodeOf core) (sym c.report.ensures.program) c.requires.start.code) (driven code old new c.args.cycles end c.requires.start.stands by)))
    c.report.ensures.reports

pub returns-clause-put : goal.returns-clause-put
returns-clause-put g c = c.report.ensures.sure refl
