use Rattle.std.proofs.Common.{sym, ap, ◌∙◌, Ok, map, arith}
use Rattle.std.proofs.lemmas.List.{append-nil, map-append}
use Rattle.std.proofs.lemmas.Result.{err_from_is_err_and}
use Rattle.grammar.specs.Cutting.{past_blanks, closes_with_nothing}
use Rattle.grammar.proofs.Cuts.{Cuts-begun, Cuts-ended, Cuts-finish}
use Rattle.grammar.proofs.Past.{Cuts-blanks, Cuts-unclosed, first_past, shorter_past, Cuts-token, Cuts-wrong, shorter_token}
use Rattle.grammar.proofs.cutting.cut.Goals as goal

pub returns-in_err-skip_blank-clause-tokens : goal.returns-in_err-skip_blank-clause-tokens
returns-in_err-skip_blank-clause-tokens g c =
    let p = err_from_is_err_and c.from_residual.result c.from_residual.ensures.1 in
    let begun = Cuts-begun (past_blanks g.C.Cutter.piece) closes_with_nothing _ _ _ _ (ap (map g.C.Cutter.view) c.new-tokens.ensures.items) c.new-scan.ensures.left c.new-scan.ensures.place in
    rw (p.1, p.2) (Cuts-unclosed g.C.Cutter.piece closes_with_nothing _ c.new-scan.result c.skip_blank.new.scan _ _ _ c.in_err-skip_blank.ensures begun)

pub loop-byte-init : goal.loop-byte-init
loop-byte-init g c = record {
  so_far = Cuts-blanks g.C.Cutter.piece closes_with_nothing _ c.new-scan.result c.skip_blank.new.scan _ _ _ c.in_ok-skip_blank.ensures (Cuts-begun (past_blanks g.C.Cutter.piece) closes_with_nothing _ _ _ _ (ap (map g.C.Cutter.view) c.new-tokens.ensures.items) c.new-scan.ensures.left c.new-scan.ensures.place);
  no_blank = first_past g.C.Cutter.piece closes_with_nothing c.new-scan.result c.skip_blank.new.scan _ c.in_ok-skip_blank.ensures;
}

pub returns-in_err-token-clause-tokens : goal.returns-in_err-token-clause-tokens
returns-in_err-token-clause-tokens g c =
    let p = err_from_is_err_and c.from_residual-in_err-token.result c.from_residual-in_err-token.ensures.1 in
    rw (p.1, p.2) (Cuts-wrong g.C.Cutter.view g.C.Cutter.piece closes_with_nothing _ c.loop-byte.scan c.token.new.scan _ _ _ _ c.loop-byte.invariant.no_blank (sym c.peek.ensures ∙ c.in-Some.is) c.in_err-token.ensures c.loop-byte.invariant.so_far)

pub loop-byte-smaller : goal.loop-byte-smaller
loop-byte-smaller g c =
    let past = shorter_past g.C.Cutter.piece closes_with_nothing c.token.new.scan c.skip_blank-in-Some.new.scan _ c.in_ok-skip_blank-2.ensures in
    let token = shorter_token g.C.Cutter.view g.C.Cutter.piece closes_with_nothing c.loop-byte.scan c.token.new.scan _ c.in_ok-token.token (sym c.peek.ensures ∙ c.in-Some.is) c.in_ok-token.ensures in
    omega (arith, past, token)

pub loop-byte-preserved : goal.loop-byte-preserved
loop-byte-preserved g c =
    let taken = Cuts-token g.C.Cutter.view g.C.Cutter.piece closes_with_nothing _ c.loop-byte.scan c.token.new.scan _ _ _ c.in_ok-token.token c.loop-byte.invariant.no_blank (sym c.peek.ensures ∙ c.in-Some.is) c.in_ok-token.ensures c.loop-byte.invariant.so_far in
    rw (c.in_ok-push.ensures.items, map-append) record {
      so_far = Cuts-blanks g.C.Cutter.piece closes_with_nothing _ c.token.new.scan c.skip_blank-in-Some.new.scan _ _ _ c.in_ok-skip_blank-2.ensures taken;
      no_blank = first_past g.C.Cutter.piece closes_with_nothing c.token.new.scan c.skip_blank-in-Some.new.scan _ c.in_ok-skip_blank-2.ensures;
    }

pub returns-in_err-skip_blank-2-clause-tokens : goal.returns-in_err-skip_blank-2-clause-tokens
returns-in_err-skip_blank-2-clause-tokens g c =
    let p = err_from_is_err_and c.from_residual-in_err-skip_blank-2.result c.from_residual-in_err-skip_blank-2.ensures.1 in
    let taken = Cuts-token g.C.Cutter.view g.C.Cutter.piece closes_with_nothing _ c.loop-byte.scan c.token.new.scan _ _ _ c.in_ok-token.token c.loop-byte.invariant.no_blank (sym c.peek.ensures ∙ c.in-Some.is) c.in_ok-token.ensures c.loop-byte.invariant.so_far in
    rw (p.1, p.2) (Cuts-unclosed g.C.Cutter.piece closes_with_nothing _ c.token.new.scan c.skip_blank-in-Some.new.scan _ _ _ c.in_err-skip_blank-2.ensures taken)

pub returns-clause-tokens : goal.returns-clause-tokens
returns-clause-tokens g c =
    Cuts-ended (past_blanks g.C.Cutter.piece) closes_with_nothing _ _ _ _ (sym c.peek.ensures ∙ c.in_default.is) c.loop-byte.invariant.so_far ∙ ap Ok (append-nil (map g.C.Cutter.view c.loop-byte.tokens.items))

pub returns-clause-end : goal.returns-clause-end
returns-clause-end g c = c.place.ensures ∙ Cuts-finish (past_blanks g.C.Cutter.piece) closes_with_nothing _ _ _ _ (sym c.peek.ensures ∙ c.in_default.is) c.loop-byte.invariant.so_far
