use Rattle.std.proofs.Common.{◌∙◌, sym, ap, refl, [], ◌∷◌, ◌++◌}
use Rattle.std.proofs.lemmas.Result.{err_from_is_err_and}
use Rattle.grammar.specs.Rules.{ended}
use Rattle.grammar.specs.Reading.{memory}
use Rattle.grammar.proofs.Repeats.{Along-start, Along-more, Along-ended, Along-halts}
use Rattle.grammar.proofs.Exits.{halt_repeat}
use Rattle.vm_parser.specs.Grammar.{vm, line, greatest}
use Rattle.vm_parser.specs.Trees.{line_tree, commands}
use Rattle.vm_parser.proofs.Commands.{line_enters}
use Rattle.vm_parser.proofs.Lines.{commands-push, fewer}
use Rattle.vm_parser.proofs.rules.lines.Goals as goal

pub returns-then-not-begins_line : goal.returns-then-not-begins_line
returns-then-not-begins_line c = ([], c.new-lines.ensures, ended (line_enters c.args.end _ ∙ sym c.if-not-begins_line.ensures))

pub returns-in_err-first : goal.returns-in_err-first
returns-in_err-first c =
    let p = err_from_is_err_and c.from_residual.result c.from_residual.ensures.1 in
    rw (p.1, p.2) (halt_repeat (line_enters c.args.end _ ∙ sym c.if-not-begins_line.ensures) c.in_err-first.ensures)

pub lines-init : goal.lines-init
lines-init c =
    let read = Along-more (vm c.args.end) line line_tree greatest _ [] _ _ _ _ _ (Along-start (vm c.args.end) line line_tree greatest _ [] refl) (line_enters c.args.end _ ∙ sym c.if-not-begins_line.ensures) c.in_ok-first.ensures in
    (c.in_ok-first.first ∷ [], c.in_ok-add_line.ensures.ok ∙ ap (λ ls. ls ++ commands (c.in_ok-first.first ∷ [])) c.new-lines.ensures, read)

pub returns-in_err-line : goal.returns-in_err-line
returns-in_err-line c =
    let p = err_from_is_err_and c.from_residual-in_err-line.result c.from_residual-in_err-line.ensures.1 in
    rw (p.1, p.2) (Along-halts (vm c.args.end) line line_tree greatest _ _ _ _ _ c.lines.invariant.2 (line_enters c.args.end _ ∙ sym c.begins_line-in-lines.ensures ∙ c.lines-test.true) c.in_err-line.ensures)

pub lines-preserved : goal.lines-preserved
lines-preserved c =
    let xs = c.lines.invariant.0 in (
      xs ++ c.in_ok-line.line ∷ [],
      c.in_ok-add_line-2.ensures.ok ∙ ap (λ ls. ls ++ commands (c.in_ok-line.line ∷ [])) c.lines.invariant.1 ∙ sym (commands-push xs c.in_ok-line.line),
      Along-more (vm c.args.end) line line_tree greatest _ xs _ _ _ _ _ c.lines.invariant.2 (line_enters c.args.end _ ∙ sym c.begins_line-in-lines.ensures ∙ c.lines-test.true) c.in_ok-line.ensures,
    )

pub lines-smaller : goal.lines-smaller
lines-smaller c = fewer _ _ c.in_ok-line.ensures refl

pub returns : goal.returns
returns c = (c.lines.invariant.0, c.lines.invariant.1, Along-ended (vm c.args.end) line line_tree greatest _ _ _ _ c.lines.invariant.2 (line_enters c.args.end _ ∙ sym c.begins_line-in-lines.ensures ∙ c.lines-test.false))

pub returns-in_err-add_line : goal.returns-in_err-add_line
returns-in_err-add_line c =
    let p = err_from_is_err_and c.from_residual-in_err-add_line.result c.from_residual-in_err-add_line.ensures.1 in
    rw (p.1, p.2, c.in_err-add_line.ensures.err) memory

pub returns-in_err-add_line-2 : goal.returns-in_err-add_line-2
returns-in_err-add_line-2 c =
    let p = err_from_is_err_and c.from_residual-in_err-add_line-2.result c.from_residual-in_err-add_line-2.ensures.1 in
    rw (p.1, p.2, c.in_err-add_line-2.ensures.err) memory
