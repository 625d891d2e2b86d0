use Rattle.std.proofs.Common.{subst, Vec, Global}
use Rattle.std.proofs.lemmas.Result.{err_from_is_err_and}
use Rattle.grammar.proofs.Wholes.{not_cut, all_spelled, all_refused}
use Rattle.grammar.specs.Reading.{ParsesAll}
use Rattle.scan_text.specs.declared.Place.{Place}
use Rattle.key_script.specs.declared.lines.Line.{Line}
use Rattle.key_script.specs.Tokens.{tokens_of, finish}
use Rattle.key_script.specs.Grammar.{script, whole, script_tree, after_lines}
use Rattle.key_script.proofs.keys.read.Goals as goal

pub returns-in_err-tokens-clause-fault : goal.returns-in_err-tokens-clause-fault
returns-in_err-tokens-clause-fault c =
    let p = err_from_is_err_and c.from_residual.result c.from_residual.ensures.1 in
    rw (p.1, p.2) (not_cut _ _ _ _ _ c.in_err-tokens.ensures.tokens)

pub returns-clause-found : goal.returns-clause-found
returns-clause-found c =
    let h = subst (λ (at : Place). ParsesAll (script at) whole (λ (v : Vec Line Global). script_tree v.items) (λ v. after_lines 0 v.items) 0 c.deref.result.now c.all_lines.result) c.in_ok-tokens.ensures.end c.all_lines.ensures.reads in
    all_spelled (script (finish c.args.text.now)) whole 0 (tokens_of c.args.text.now) (λ (v : Vec Line Global). script_tree v.items) (λ v. after_lines 0 v.items) _ _ _ c.in_ok-tokens.ensures.tokens c.deref.ensures.value h

pub returns-clause-fault : goal.returns-clause-fault
returns-clause-fault c =
    let h = subst (λ (at : Place). ParsesAll (script at) whole (λ (v : Vec Line Global). script_tree v.items) (λ v. after_lines 0 v.items) 0 c.deref.result.now c.all_lines.result) c.in_ok-tokens.ensures.end c.all_lines.ensures.reads in
    all_refused (script (finish c.args.text.now)) whole 0 (tokens_of c.args.text.now) (λ (v : Vec Line Global). script_tree v.items) (λ v. after_lines 0 v.items) _ _ _ c.in_ok-tokens.ensures.tokens c.deref.ensures.value h
