use Rattle.std.proofs.Common.{◌∙◌, sym, refl, suc}
use Rattle.std.proofs.lemmas.Result.{err_from_is_err_and}
use Rattle.grammar.specs.Rules.{ended}
use Rattle.grammar.proofs.Exits.{halt_repeat}
use Rattle.grammar.proofs.Continues.{begun, go_on, halt_more}
use Rattle.vm_parser.proofs.Lines.{fewer, more_again, more_done}
use Rattle.vm_parser.proofs.rules.empty_lines.Goals as goal

pub returns-then-not-ends : goal.returns-then-not-ends
returns-then-not-ends c = (0, refl, ended (sym c.if-not-ends.ensures))

pub returns-in_err-after_first : goal.returns-in_err-after_first
returns-in_err-after_first c =
    let p = err_from_is_err_and c.from_residual.result c.from_residual.ensures.1 in
    rw (p.1, p.2) (halt_repeat (sym c.if-not-ends.ensures) c.in_err-after_first.ensures)

pub lines-init : goal.lines-init
lines-init c = (1, go_on begun (sym c.if-not-ends.ensures) c.in_ok-after_first.ensures)

pub returns-in_err-after : goal.returns-in_err-after
returns-in_err-after c =
    let p = err_from_is_err_and c.from_residual-in_err-after.result c.from_residual-in_err-after.ensures.1 in
    rw (p.1, p.2) (halt_more c.lines.invariant.1 (sym c.ends-in-lines.ensures ∙ c.lines-test.true) c.in_err-after.ensures)

pub lines-preserved : goal.lines-preserved
lines-preserved c = (suc c.lines.invariant.0, more_again c.lines.invariant.0 c.lines.invariant.1 (sym c.ends-in-lines.ensures ∙ c.lines-test.true) c.in_ok-after.ensures)

pub lines-smaller : goal.lines-smaller
lines-smaller c = fewer _ _ c.in_ok-after.ensures refl

pub returns : goal.returns
returns c = (c.lines.invariant.0, refl, more_done c.lines.invariant.0 c.lines.invariant.1 (sym c.ends-in-lines.ensures ∙ c.lines-test.false))
