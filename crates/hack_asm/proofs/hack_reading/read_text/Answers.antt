use Rattle.std.proofs.Common.{List, ℕ, Option, subst, sym}
use Rattle.std.proofs.lemmas.Result.{err_from_is_err_and}
use Rattle.hack_asm.specs.HackText.{Spells}
use Rattle.hack_asm.proofs.HackLines.{refusal, yielded}
use Rattle.hack_asm.proofs.hack_reading.read_text.Goals as goal

pub returns-in_err-lines : goal.returns-in_err-lines
returns-in_err-lines c =
    let p = err_from_is_err_and c.from_residual.result c.from_residual.ensures.1 in
    rw (p.1, p.2) (refusal c.args.text.now _ c.in_err-lines.ensures.fault)

pub returns : goal.returns
returns c =
    yielded (λ v. v.items) c.args.text.now c.deref.result.now c.image.result (subst (λ (ls : List (Option ℕ)). Spells c.args.text.now ls) (sym c.deref.ensures.value) c.in_ok-lines.ensures.found) c.image.ensures
