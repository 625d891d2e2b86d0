use Rattle.std.proofs.Common.{◌≡◌, Option, Some, None, map, refl, sym}
use Rattle.std.proofs.lemmas.Result.{err_from_is_err_and}
use Rattle.grammar.proofs.Steps.{halt}
use Rattle.hack_asm.specs.Tokens.{view}
use Rattle.hack_asm.proofs.Letters.{operation_behind, operation_behind_stops, operation_behind_enters, shift_behind, none_behind}
use Rattle.hack_asm.proofs.rules.behind.Goals as goal

not_some : {A : Type 0} (o : Option A) → ((x : A) → o ≡ Some x → ⊥) → o ≡ None
not_some None h = refl
not_some (Some x) h = absurd (h x refl)

pub returns-in_err-op : goal.returns-in_err-op
returns-in_err-op c =
    let p = err_from_is_err_and c.from_residual.result c.from_residual.ensures.1 in
    let i = c.in_err-op.ensures.0 in
    rw (p.1, p.2) (operation_behind_enters c.args.end c.args.first (map view c.args.tokens.now) i, halt (λ f h. operation_behind_stops c.args.end c.args.first i h) c.in_err-op.ensures.1)

pub returns-in-Some : goal.returns-in-Some
returns-in-Some c = operation_behind c.args.end c.args.first (rw c.in-Some.is at c.in_ok-op.ensures)

pub returns-in_default-shift : goal.returns-in_default-shift
returns-in_default-shift c =
    let none = not_some _ c.in_default.not-Some in
    none_behind c.args.end c.args.first (map view c.args.tokens.now) (rw none at c.in_ok-op.ensures) (sym c.in_default-shift.ensures)

pub returns : goal.returns
returns c =
    let none = not_some _ c.in_default.not-Some in
    shift_behind c.args.end c.args.first (map view c.args.tokens.now) _ _ (rw none at c.in_ok-op.ensures) (sym c.in-Some-shift.ensures)
