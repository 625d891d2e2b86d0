use Rattle.std.proofs.Common.{◌≡◌, ◌≤◌, [], length, take, drop, sym, ap, subst, ◌∙◌, arith}
use Rattle.std.proofs.Math.Seq.{take-length}
use Rattle.std.proofs.Math.ListN.{drop_of_length-le}
use Rattle.std.proofs.lemmas.List.{length-drop}
use Rattle.script_columns.specs.Comparison.{lines_of}
use Rattle.script_columns.proofs.Cutting.{drop_twice, drop_one_more, none_further}
use Rattle.script_columns.proofs.comparison.past_lines.Goals as goal

pub returns-then-at-text-clause-rest : goal.returns-then-at-text-clause-rest
returns-then-at-text-clause-rest c =
    let text = c.args.text.now in
    let past : length c.args.text.now ≤ c.loop.at = omega arith in
    let none : lines_of (drop c.loop.at c.args.text.now) ≡ [] = ap lines_of (drop_of_length-le text past) in
    none ∙ sym (none_further c.loop.counter c.args.count (lines_of text) (omega arith) (sym c.loop.invariant.rest ∙ none))

pub loop-preserved : goal.loop-preserved
loop-preserved c =
    let text = c.args.text.now in
    let whole = ap (λ n. take n (drop c.loop.at text)) (sym (length-drop c.loop.at text)) ∙ take-length (drop c.loop.at text) in
    let rest = subst (λ t. lines_of (drop c.past_line-at.result t) ≡ drop 1 (lines_of t)) whole c.past_line-at.ensures.rest in
    record {
      within = omega (arith, c.past_line-at.ensures.within, length-drop c.loop.at c.args.text.now, c.loop.invariant.within);
      rest =
          sym (ap lines_of (drop_twice c.loop.at c.past_line-at.result text))
          ∙ rest
          ∙ ap (drop 1) c.loop.invariant.rest
          ∙ drop_one_more c.loop.counter (lines_of text);
    }
