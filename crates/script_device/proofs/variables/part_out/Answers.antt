use Rattle.std.proofs.Common.{◌≡◌, ◌<◌, length, sym, ap, ◌∙◌, arith}
use Rattle.std.proofs.lemmas.List.{nil_from_length}
use Rattle.script_device.proofs.Found.{is_none, is_some, no_out, out_has, out_found}
use Rattle.script_device.proofs.variables.part_out.Goals as goal

pub returns-in_default : goal.returns-in_default
returns-in_default c = λ nodes out. no_out c.args.directory.now c.args.text.now nodes c.in_default.ensures out

pub returns-then-is_empty : goal.returns-then-is_empty
returns-then-is_empty c =
    let none : length c.in-Some.inside.now ≡ 0 = is_none (length c.in-Some.inside.now) (sym c.is_empty.ensures ∙ c.if-is_empty.true) in
    out_found c.args.directory.now c.args.text.now c.in-Some.name.now c.in-Some.inside.now c.in-Some.ensures (nil_from_length c.in-Some.inside.now none) c.out_named.result c.out_named.ensures

pub returns-else-is_empty : goal.returns-else-is_empty
returns-else-is_empty c = λ nodes out.
    let none : length c.in-Some.inside.now ≡ 0 = ap length (out_has c.args.directory.now c.args.text.now c.in-Some.name.now c.in-Some.inside.now nodes c.in-Some.ensures out).0 in
    let some : 0 < length c.in-Some.inside.now = is_some (length c.in-Some.inside.now) (sym c.is_empty.ensures ∙ c.if-is_empty.false) in
    absurd (omega (arith, none, some))
