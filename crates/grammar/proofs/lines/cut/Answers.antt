use Rattle.std.proofs.Common.{◌++◌, sym, ap, ◌∙◌, Ok, map, Some, None}
use Rattle.std.proofs.lemmas.List.{map-append}
use Rattle.std.proofs.lemmas.Result.{err_from_is_err_and}
use Rattle.grammar.specs.Cutting.{last_of}
use Rattle.grammar.specs.Lines.{close}
use Rattle.grammar.proofs.Cuts.{Cuts-begun, Cuts-passed, Cuts-taken, Cuts-failed, Cuts-ended, Cuts-finish, goes_on}
use Rattle.grammar.proofs.lines.cut.Goals as goal

pub loop-byte-init : goal.loop-byte-init
loop-byte-init g c = Cuts-begun g.T.LineToken.piece (close g.T.LineToken.line_end_token g.T.LineToken.ends) _ _ _ _ (ap (map g.T.LineToken.view) c.new-tokens.ensures.items) c.new-scan.ensures.left c.new-scan.ensures.place

pub returns-in_err-token-clause-tokens : goal.returns-in_err-token-clause-tokens
returns-in_err-token-clause-tokens g c =
    let p = err_from_is_err_and c.from_residual.result c.from_residual.ensures.1 in
    rw (p.1, p.2) (Cuts-failed g.T.LineToken.piece (close g.T.LineToken.line_end_token g.T.LineToken.ends) _ _ _ _ _ _ _ (sym c.peek.ensures ∙ c.in-Some.is) c.in_err-token.ensures c.loop-byte.invariant)

pub loop-byte-preserved-in-Continue-branch-3 : goal.loop-byte-preserved-in-Continue-branch-3
loop-byte-preserved-in-Continue-branch-3 g c =
    rw (c.in_ok-push.ensures.items, map-append) (Cuts-taken g.T.LineToken.piece (close g.T.LineToken.line_end_token g.T.LineToken.ends) _ _ _ _ _ _ _ (sym c.peek.ensures ∙ c.in-Some.is) (rw c.in-Some-2.is at c.in_ok-token.ensures) c.loop-byte.invariant)

pub loop-byte-preserved : goal.loop-byte-preserved
loop-byte-preserved g c =
    Cuts-passed g.T.LineToken.piece (close g.T.LineToken.line_end_token g.T.LineToken.ends) _ _ _ _ _ _ (sym c.peek.ensures ∙ c.in-Some.is) (rw c.in_default-2.is at c.in_ok-token.ensures) c.loop-byte.invariant

pub loop-byte-smaller-in-Continue-branch-3 : goal.loop-byte-smaller-in-Continue-branch-3
loop-byte-smaller-in-Continue-branch-3 g c = goes_on g.T.LineToken.piece (close g.T.LineToken.line_end_token g.T.LineToken.ends) _ _ (Some (g.T.LineToken.view c.in-Some-2.token)) _ (sym c.peek.ensures ∙ c.in-Some.is) (rw c.in-Some-2.is at c.in_ok-token.ensures)

pub loop-byte-smaller : goal.loop-byte-smaller
loop-byte-smaller g c = goes_on g.T.LineToken.piece (close g.T.LineToken.line_end_token g.T.LineToken.ends) _ _ None _ (sym c.peek.ensures ∙ c.in-Some.is) (rw c.in_default-2.is at c.in_ok-token.ensures)

pub returns-clause-tokens : goal.returns-clause-tokens
returns-clause-tokens g c =
    let closes = close g.T.LineToken.line_end_token g.T.LineToken.ends in
    let items = map g.T.LineToken.view c.loop-byte.tokens.items in
    let begun = sym c.peek.ensures ∙ c.in_default.is in
    Cuts-ended g.T.LineToken.piece closes _ _ _ _ begun c.loop-byte.invariant
    ∙ ap Ok (ap (λ at. items ++ closes (last_of items) at) (sym (c.place-end.ensures ∙ Cuts-finish g.T.LineToken.piece closes _ _ _ _ begun c.loop-byte.invariant)) ∙ sym c.in_ok-close.ensures)

pub returns-clause-end : goal.returns-clause-end
returns-clause-end g c = c.place-end.ensures ∙ Cuts-finish g.T.LineToken.piece (close g.T.LineToken.line_end_token g.T.LineToken.ends) _ _ _ _ (sym c.peek.ensures ∙ c.in_default.is) c.loop-byte.invariant
