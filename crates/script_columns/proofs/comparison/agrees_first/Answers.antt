use Rattle.std.proofs.Common.{◌<◌, ◌≤◌, length, take, sym, ap, ◌∙◌, arith, rules}
use Rattle.std.proofs.lemmas.List.{length-take-le}
use Rattle.script_columns.specs.Comparison.{agrees, agrees_first}
use Rattle.script_columns.proofs.Cutting.{cut, length_within}
use Rattle.script_columns.proofs.comparison.agrees_first.Goals as goal

pub slice_bounds-agrees-end : goal.slice_bounds-agrees-end
slice_bounds-agrees-end c =
    let within : c.line_length-length.result ≤ length c.args.text.now = omega (arith, c.line_length-length.ensures, length_within c.args.text.now) in
    sym (length-take-le c.line_length-length.result c.args.text.now within)

pub returns : goal.returns
returns c =
    let text = c.args.text.now in
    let line = c.args.line.now in
    let some : 0 < length c.args.text.now = search rules in
    c.agrees.ensures
    ∙ ap (λ n. agrees (take n text) line) c.line_length-length.ensures
    ∙ sym (ap (λ ls. agrees_first ls line) (cut text some))
