use Rattle.std.proofs.Common.{◌≤◌, sym, ◌∙◌, refl, arith}
use Rattle.std.proofs.lemmas.Result.{err_from_is_err_and}
use Rattle.grammar.proofs.Repeats.{Along-more, Along-ended, Along-halts}
use Rattle.grammar.proofs.Lengths.{shorter}
use Rattle.key_script.specs.Grammar.{script, line, line_tree, after_lines}
use Rattle.key_script.proofs.Counting.{after_lines-push, are_rising-push}
use Rattle.key_script.proofs.lines.lines.Goals as goal

pub returns-in_err-line-clause-reads : goal.returns-in_err-line-clause-reads
returns-in_err-line-clause-reads c =
    let p = err_from_is_err_and c.from_residual.result c.from_residual.ensures.1 in
    rw (p.1, p.2) (Along-halts _ line line_tree _ _ _ _ _ _ c.lines.invariant.along (sym c.begins.ensures ∙ c.lines-test.true) c.in_err-line.ensures.reads)

pub lines-smaller : goal.lines-smaller
lines-smaller c = shorter _ _ _ _ (script c.args.end) (λ n. refl) c.in_ok-line.ensures.reads refl

pub lines-preserved : goal.lines-preserved
lines-preserved c =
    let least : after_lines 0 c.lines.lines.items ≤ c.in_ok-line.line.moment = omega (arith, c.lines.invariant.least, c.in_ok-line.ensures.rising) in
    rw c.in_ok-push.ensures.items record {
      along = Along-more _ line line_tree _ _ _ _ _ _ _ _ c.lines.invariant.along (sym c.begins.ensures ∙ c.lines-test.true) c.in_ok-line.ensures.reads;
      least = sym (after_lines-push 0 c.lines.lines.items c.in_ok-line.line);
      rising = are_rising-push 0 c.lines.lines.items c.in_ok-line.line c.lines.invariant.rising least;
    }

pub returns-clause-reads : goal.returns-clause-reads
returns-clause-reads c = rw (← c.lines.invariant.least) (Along-ended _ line line_tree _ _ _ _ _ c.lines.invariant.along (sym c.begins.ensures ∙ c.lines-test.false))
