use Rattle.std.proofs.Common.{ℕ, refl, ap, sym, ◌∙◌, subst}
use Rattle.std.specs.Prelude.{IsSome}
use Rattle.key_script.specs.Codes.{code_at}
use Rattle.machine_io.specs.Driven.{IsDriven}
use Rattle.image_map.specs.declared.map.Image.{Image}
use Rattle.gate_computer.specs.declared.wiring.Wiring.{Wiring}
use Rattle.gate_computer.specs.Followed.{HasFollowed}
use Rattle.nand_cli.proofs.OnGates.{nets_put}
use Rattle.nand_cli.proofs.Reporting.{counts_by, is_put}
use Rattle.nand_cli.proofs.levels.gates.report_nets.Goals as goal

pub show_nets-requires : goal.show_nets-requires
show_nets-requires g c = subst (λ (p : Image × Wiring). IsSome p.1.parts) (sym c.in_ok-end.ensures.program) c.requires.start.parts

pub returns-clause-reports : goal.returns-clause-reports
returns-clause-reports g c =
    let code = code_at c.args.keys.now in
    let core = c.args.core.now in
    let old = c.args.computer.now in
    let new = c.drive.new.level in
    let end = c.in_ok-end.end in
    let D : ℕ → Type 0 = λ n. IsDriven code (HasFollowed old) old.moves n end (HasFollowed new) new.moves in
    rw (c.finished.ensures) (nets_put core code c.args.cycles c.requires.resolved c.requires.words old new c.requires.start.start (ap (λ (p : Image × Wiring). p.0) c.in_ok-end.ensures.program)
    end c.at-key.result (g.O.Sink.state c.args.out.now) (g.O.Sink.state c.show_nets.new.out) c.show_nets.result (subst D c.from-n.ensures c.in_ok-end.ensures.driven) (c.at-key.ensures ∙ ap code c.from-n.ensures) c.show_nets.ensures.put)

pub returns-clause-counts : goal.returns-clause-counts
returns-clause-counts g c = rw (c.finished.ensures) (counts_by (g.O.Sink.state c.args.out.now) (g.O.Sink.state c.show_nets.new.out) c.show_nets.result c.show_nets.ensures.counts)

pub returns-in_err-end-clause-put : goal.returns-in_err-end-clause-put
returns-in_err-end-clause-put g c = let made = c.in_err-end.ensures.sure refl in absurd (let no : ⊥ = cc in no)

pub returns-clause-put : goal.returns-clause-put
returns-clause-put g c = rw (c.finished.ensures) (is_put c.show_nets.result)
