use Rattle.std.proofs.Common.{◌++◌, List, ℕ, subst, rules}
use Rattle.outer_world.specs.Written.{Puts}
use Rattle.machine_io.specs.Report.{shown_text}
use Rattle.nand_cli.proofs.report.put_report.Goals as goal

pub returns : goal.returns
returns g c =
    let word = (g.L.Level.reading c.args.level.now).word in
    let P : List ℕ → Type 0 = λ head. Puts (g.O.Sink.state c.args.out.now) (g.O.Sink.state c.show_report.new.out) (head ++ shown_text c.args.show word) c.show_report.result in
    record { put = subst P c.head_of-head.ensures (c.show_report.ensures.put word (λ a w from_on up_to p. search rules)) }
