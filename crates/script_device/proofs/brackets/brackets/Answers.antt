use Rattle.std.proofs.Common.{◌+◌, take, drop, sym, ap, subst, ◌∙◌}
use Rattle.std.proofs.Math.Seq.{take-length}
use Rattle.std.proofs.lemmas.List.{length-drop}
use Rattle.script_device.specs.Inner.Brackets.{IsClosed}
use Rattle.script_device.proofs.Bracketed.{some_opens, inside_behind}
use Rattle.script_device.proofs.brackets.brackets.Goals as goal

pub returns-in_default : goal.returns-in_default
returns-in_default c = λ name inside has. some_opens c.args.text.now name inside has c.in_default.ensures

pub returns-in_default-digits_before_end : goal.returns-in_default-digits_before_end
returns-in_default-digits_before_end c = λ name inside has.
    let text = c.args.text.now in
    let whole = ap (λ n. take n (drop (c.in-Some.at + 1) text)) (sym (length-drop (c.in-Some.at + 1) text)) ∙ take-length (drop (c.in-Some.at + 1) text) in
    c.in_default-digits_before_end.ensures inside (subst (λ t. IsClosed t inside) (sym whole) (inside_behind text name inside c.in-Some.at has c.in-Some.ensures))
