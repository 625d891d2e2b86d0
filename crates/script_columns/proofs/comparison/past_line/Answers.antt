use Rattle.std.proofs.Common.{◌≡◌, ◌+◌, length, drop, subst, arith}
use Rattle.script_columns.specs.Comparison.{lines_of}
use Rattle.script_columns.specs.Inner.Cut.{past_first}
use Rattle.script_columns.proofs.Cutting.{past_cut, past_here, past_end}
use Rattle.script_columns.proofs.comparison.past_line.Goals as goal

pub returns-then-c-eq10-clause-rest : goal.returns-then-c-eq10-clause-rest
returns-then-c-eq10-clause-rest c =
    let text = c.args.text.now in
    let here = past_here text c.loop-k.k c.loop-k-test.true c.if-c-eq10.true in
    let e : past_first c.args.text.now ≡ c.loop-k.k + 1 = omega (arith, here, c.loop-k.invariant) in
    subst (λ n. lines_of (drop n text) ≡ drop 1 (lines_of text)) e (past_cut text)

pub returns-clause-rest : goal.returns-clause-rest
returns-clause-rest c =
    let text = c.args.text.now in
    let none = past_end text c.loop-k.k (omega arith) in
    let e : past_first c.args.text.now ≡ length c.args.text.now = omega (arith, none, c.loop-k.invariant) in
    subst (λ n. lines_of (drop n text) ≡ drop 1 (lines_of text)) e (past_cut text)
