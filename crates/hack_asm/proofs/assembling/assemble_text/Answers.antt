use Rattle.std.proofs.Common.{List, map, Ok, subst, sym, ap, ◌∙◌}
use Rattle.std.proofs.lemmas.Result.{err_from_is_err_and}
use Rattle.scan_text.specs.declared.Place.{Place}
use Rattle.grammar.specs.Rules.{Stops}
use Rattle.grammar.specs.Reading.{Halt}
use Rattle.grammar.proofs.Wholes.{not_cut, not_read}
use Rattle.hack_asm.specs.declared.token.Token.{Token}
use Rattle.hack_asm.specs.Tokens.{Word, view, tokens_of, finish}
use Rattle.hack_asm.specs.Grammar.{Said, assembly, whole}
use Rattle.hack_asm.proofs.Meanings.{refusal}
use Rattle.hack_asm.proofs.assembling.assemble_text.Goals as goal

pub returns-in_err-tokens : goal.returns-in_err-tokens
returns-in_err-tokens c =
    let text = c.args.text.now in
    let p = err_from_is_err_and c.from_residual.result c.from_residual.ensures.1 in
    rw (p.1, p.2) (refusal text _ (not_cut (assembly (finish text)) whole tt (tokens_of text) _ c.in_err-tokens.ensures.tokens))

pub returns-in_err-lines : goal.returns-in_err-lines
returns-in_err-lines c =
    let text = c.args.text.now in
    let p = err_from_is_err_and c.from_residual-in_err-lines.result c.from_residual-in_err-lines.ensures.1 in
    let cut = c.in_ok-tokens.ensures.tokens ∙ ap (λ (l : List Token). Ok (map view l)) (sym c.deref.ensures.value) in
    let h = subst (λ (at : Place). Halt (Stops Word (Unit {0}) (Unit {0}) Said (assembly at) tt whole (map view c.deref.result.now)) c.in_err-lines.field-0.0) c.in_ok-tokens.ensures.end c.in_err-lines.ensures in
    rw (p.1, p.2) (refusal text _ (not_read (assembly (finish text)) whole tt (tokens_of text) (map view c.deref.result.now) _ cut h))
