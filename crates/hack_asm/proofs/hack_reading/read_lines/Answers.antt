use Rattle.std.proofs.Common.{subst, Vec, Global, Option, ℕ}
use Rattle.std.proofs.lemmas.Result.{err_from_is_err_and}
use Rattle.grammar.proofs.Wholes.{not_cut, all_refused}
use Rattle.grammar.specs.Reading.{ParsesAll}
use Rattle.scan_text.specs.declared.Place.{Place}
use Rattle.hack_asm.specs.HackTokens.{tokens_of, finish}
use Rattle.hack_asm.specs.HackText.{hack, whole, text_tree}
use Rattle.hack_asm.proofs.HackLines.{found}
use Rattle.hack_asm.proofs.hack_reading.read_lines.Goals as goal

pub returns-in_err-tokens-clause-fault : goal.returns-in_err-tokens-clause-fault
returns-in_err-tokens-clause-fault c =
    let p = err_from_is_err_and c.from_residual.result c.from_residual.ensures.1 in
    rw (p.1, p.2) (not_cut _ _ _ _ _ c.in_err-tokens.ensures.tokens)

pub returns-clause-found : goal.returns-clause-found
returns-clause-found c =
    let h = subst (λ (at : Place). ParsesAll (hack at) whole (λ (v : Vec (Option ℕ) Global). text_tree v.items) (λ _. tt) tt c.deref.result.now c.all_lines.result) c.in_ok-tokens.ensures.end c.all_lines.ensures.reads in
    found c.args.text.now _ _ _ c.in_ok-tokens.ensures.tokens c.deref.ensures.value h c.all_lines.ensures.words

pub returns-clause-fault : goal.returns-clause-fault
returns-clause-fault c =
    let h = subst (λ (at : Place). ParsesAll (hack at) whole (λ (v : Vec (Option ℕ) Global). text_tree v.items) (λ _. tt) tt c.deref.result.now c.all_lines.result) c.in_ok-tokens.ensures.end c.all_lines.ensures.reads in
    all_refused (hack (finish c.args.text.now)) whole tt (tokens_of c.args.text.now) (λ (v : Vec (Option ℕ) Global). text_tree v.items) (λ _. tt) _ _ _ c.in_ok-tokens.ensures.tokens c.deref.ensures.value h
