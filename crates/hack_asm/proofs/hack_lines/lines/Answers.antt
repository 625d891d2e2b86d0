use Rattle.std.proofs.Common.{sym, ◌∙◌, refl}
use Rattle.std.proofs.lemmas.Result.{err_from_is_err_and}
use Rattle.grammar.proofs.Repeats.{Along-more, Along-ended, Along-halts}
use Rattle.grammar.proofs.Lengths.{shorter}
use Rattle.hack_asm.specs.HackText.{hack, line, line_tree}
use Rattle.hack_asm.proofs.HackLines.{AreLines-push}
use Rattle.hack_asm.proofs.hack_lines.lines.Goals as goal

pub returns-in_err-line-clause-reads : goal.returns-in_err-line-clause-reads
returns-in_err-line-clause-reads c =
    let p = err_from_is_err_and c.from_residual.result c.from_residual.ensures.1 in
    rw (p.1, p.2) (Along-halts _ line line_tree _ _ _ _ _ _ c.lines.invariant.along (sym c.begins.ensures ∙ c.lines-test.true) c.in_err-line.ensures.reads)

pub lines-smaller : goal.lines-smaller
lines-smaller c = shorter _ _ _ _ (hack c.args.end) (λ n. refl) c.in_ok-line.ensures.reads refl

pub lines-preserved : goal.lines-preserved
lines-preserved c =
    rw c.in_ok-push.ensures.items record {
      along = Along-more _ line line_tree _ _ _ _ _ _ _ _ c.lines.invariant.along (sym c.begins.ensures ∙ c.lines-test.true) c.in_ok-line.ensures.reads;
      words = AreLines-push c.lines.lines.items c.in_ok-line.line c.lines.invariant.words c.in_ok-line.ensures.word;
    }

pub returns-clause-reads : goal.returns-clause-reads
returns-clause-reads c = Along-ended _ line line_tree _ _ _ _ _ c.lines.invariant.along (sym c.begins.ensures ∙ c.lines-test.false)
