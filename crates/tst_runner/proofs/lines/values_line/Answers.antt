use Rattle.std.proofs.Common.{◌++◌, take, ap, ◌∙◌, arith}
use Rattle.std.proofs.lemmas.List.{take_all}
use Rattle.script_columns.specs.Columns.{column_text, value_text}
use Rattle.tst_runner.proofs.Lined.{cell, line_of, next, one_more, seen_at, shows_line}
use Rattle.tst_runner.proofs.lines.values_line.Goals as goal

pub value-requires : goal.value-requires
value-requires c = (c.requires.0, c.requires.1, seen_at c.requires.0 c.requires.2.0 c.args.columns.now c.loop-column.column-index c.column-item.result c.requires.2.1 c.loop-column-test.true c.column-item.is)

pub loop-column-preserved : goal.loop-column-preserved
loop-column-preserved c = λ d told v s sees.
    let columns = c.args.columns.now in
    let i = c.loop-column.column-index in
    let column = c.column-item.result in
    let line = c.loop-column.line.items in
    c.in_ok-push_cell.ensures
    ∙ ap (λ x. line ++ column_text column.layout (value_text column.layout.format x)) (c.value.ensures d told v s sees)
    ∙ ap (λ t. t ++ cell d told v column) (c.loop-column.invariant d told v s sees)
    ∙ one_more d told v (take i columns) column
    ∙ ap (line_of d told v) (next columns i column c.loop-column-test.true c.column-item.is)

pub returns : goal.returns
returns c = λ d items s are.
    shows_line d items c.args.columns.now c.loop-column.line.items (c.values_law.ensures d s)
    (λ told v sees. c.loop-column.invariant d told v s sees ∙ ap (line_of d told v) (take_all c.loop-column.column-index c.args.columns.now (omega arith))) are
