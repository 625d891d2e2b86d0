use Rattle.std.proofs.Common.{◌∙◌, ap}
use Rattle.outer_world.specs.declared.point.Point.{Point}
use Rattle.jack_core.specs.Texts.{names_of}
use Rattle.machine_io.specs.Report.{head_text}
use Rattle.nand_cli.specs.Commands.Run.{name_of}
use Rattle.nand_cli.proofs.report.head_of.Goals as goal

pub returns : goal.returns
returns g c =
    let name = c.args.name in
    let end = c.args.end in
    let subs = names_of c.args.core.now in
    let seen = g.L.Level.reading c.args.level.now in
    let p = c.point-point.result in
    ap (λ m. head_text name m c.steps.result c.name_at.result.now p.number end) c.moves.ensures
    ∙ ap (λ s. head_text name seen.moves s c.name_at.result.now p.number end) c.steps.ensures
    ∙ ap (λ n. head_text name seen.moves seen.steps n p.number end) c.name_at.ensures
    ∙ ap (λ (q : Point). head_text name seen.moves seen.steps (name_of subs q.sub) q.number end) c.point-point.ensures
