use Rattle.std.proofs.Common.{◌≡◌, ℕ, List, refl, subst}
use Rattle.jack_core.specs.Texts.{names_of}
use Rattle.key_script.specs.Codes.{code_at}
use Rattle.machine_io.specs.Driven.{IsDriven}
use Rattle.machine_io.specs.declared.driving.End.{End}
use Rattle.nand_cli.specs.Inner.Reports.{machine_text}
use Rattle.nand_cli.proofs.Reporting.{counts_by, is_put, reports_by}
use Rattle.nand_cli.proofs.report.report.Goals as goal

pub returns-clause-reports : goal.returns-clause-reports
returns-clause-reports g c =
    let code = code_at c.args.keys.now in
    let old = c.args.level.now in
    let new = c.drive.new.level in
    let end = c.in_ok-end.end in
    let stands = g.L.Level.stands in
    let reading = g.L.Level.reading in
    let text : List ℕ = machine_text c.args.name (names_of c.args.core.now) (reading new) end c.args.show in
    let D : ℕ → Type 0 = λ n. IsDriven code (stands old) (reading old).moves n end (stands new) (reading new).moves in
    rw (c.finished.ensures) (reports_by (λ t. (e : End) × IsDriven code (stands old) (reading old).moves c.args.cycles e (stands new) (reading new).moves
    × (t ≡ machine_text c.args.name (names_of c.args.core.now) (reading new) e c.args.show))
    text (g.O.Sink.state c.args.out.now) (g.O.Sink.state c.put_report.new.out) c.put_report.result (end, subst D c.from.ensures c.in_ok-end.ensures.driven, refl) c.put_report.ensures.put)

pub returns-clause-counts : goal.returns-clause-counts
returns-clause-counts g c = rw (c.finished.ensures) (counts_by (g.O.Sink.state c.args.out.now) (g.O.Sink.state c.put_report.new.out) c.put_report.result c.put_report.ensures.put.counts)

pub returns-in_err-end-clause-sure : goal.returns-in_err-end-clause-sure
returns-in_err-end-clause-sure g c = λ sure. let made = c.in_err-end.ensures.sure sure in absurd (let no : ⊥ = cc in no)

pub returns-clause-sure : goal.returns-clause-sure
returns-clause-sure g c = λ sure. rw (c.finished.ensures) (is_put c.put_report.result)
