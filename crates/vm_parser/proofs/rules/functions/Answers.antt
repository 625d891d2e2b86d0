use Rattle.std.proofs.Common.{◌∙◌, sym, refl, [], ◌∷◌, ◌++◌}
use Rattle.std.proofs.lemmas.Result.{err_from_is_err_and}
use Rattle.std.proofs.lemmas.List.{map-append}
use Rattle.grammar.specs.Rules.{ended}
use Rattle.grammar.proofs.Repeats.{Along-start, Along-more, Along-ended, Along-halts}
use Rattle.grammar.proofs.Exits.{halt_repeat}
use Rattle.vm_parser.specs.Grammar.{vm, function, greatest}
use Rattle.vm_parser.specs.Trees.{function_tree, function_of}
use Rattle.vm_parser.proofs.Lines.{fewer}
use Rattle.vm_parser.proofs.rules.functions.Goals as goal

pub returns-then-not-begins_function : goal.returns-then-not-begins_function
returns-then-not-begins_function c = ([], c.new-functions.ensures, ended (sym c.if-not-begins_function.ensures))

pub returns-in_err-first : goal.returns-in_err-first
returns-in_err-first c =
    let p = err_from_is_err_and c.from_residual.result c.from_residual.ensures.1 in
    rw (p.1, p.2) (halt_repeat (sym c.if-not-begins_function.ensures) c.in_err-first.ensures)

pub functions-init : goal.functions-init
functions-init c =
    let f = c.in_ok-first.ensures in
    let read = Along-more (vm c.args.end) function function_tree greatest _ [] _ _ _ _ _ (Along-start (vm c.args.end) function function_tree greatest _ [] refl) (sym c.if-not-begins_function.ensures) f.2 in
    (f.0 ∷ [], c.in_ok-push.ensures.ok ∙ (λ i. c.new-functions.ensures i ++ f.1 i ∷ []), read)

pub returns-in_err-function : goal.returns-in_err-function
returns-in_err-function c =
    let p = err_from_is_err_and c.from_residual-in_err-function.result c.from_residual-in_err-function.ensures.1 in
    rw (p.1, p.2) (Along-halts (vm c.args.end) function function_tree greatest _ _ _ _ _ c.functions.invariant.2 (sym c.begins_function-in-functions.ensures ∙ c.functions-test.true) c.in_err-function.ensures)

pub functions-preserved : goal.functions-preserved
functions-preserved c =
    let fs = c.functions.invariant.0 in
    let f = c.in_ok-function.ensures in (
      fs ++ f.0 ∷ [],
      c.in_ok-push-2.ensures.ok ∙ (λ i. c.functions.invariant.1 i ++ f.1 i ∷ []) ∙ sym (map-append function_of fs (f.0 ∷ [])),
      Along-more (vm c.args.end) function function_tree greatest _ fs _ _ _ _ _ c.functions.invariant.2 (sym c.begins_function-in-functions.ensures ∙ c.functions-test.true) f.2,
    )

pub functions-smaller : goal.functions-smaller
functions-smaller c = fewer _ _ c.in_ok-function.ensures.2 refl

pub returns : goal.returns
returns c = (c.functions.invariant.0, c.functions.invariant.1, Along-ended (vm c.args.end) function function_tree greatest _ _ _ _ c.functions.invariant.2 (sym c.begins_function-in-functions.ensures ∙ c.functions-test.false))
