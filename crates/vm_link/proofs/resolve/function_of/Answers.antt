use Rattle.std.proofs.Common.{◌≡◌, ◌++◌, List, ap, ◌∙◌}
use Rattle.std.specs.List.{filter_map}
use Rattle.vm_link.specs.Resolved.{code_of, function_of}
use Rattle.vm_link.specs.declared.linked.Code.{Code}
use Rattle.vm_link.specs.declared.linked.LinkedFunction.{LinkedFunction}
use Rattle.vm_link.specs.Inner.Maps.{seen_section}
use Rattle.vm_link.proofs.resolve.function_of.Goals as goal

same_function : (a b : LinkedFunction) → a.name ≡ b.name → a.file ≡ b.file → a.number ≡ b.number → a.code ≡ b.code → a ≡ b
same_function a b e f m g = λ i. record { name = e i; file = f i; number = m i; code = g i }

pub returns : goal.returns
returns c = λ kept numbers before.
    let s = seen_section c.args.part.now in
    let code = c.of.ensures ∙ (c.in_ok-add_lines.ensures kept s (record { functions_are = numbers; places_are = c.in_ok-places.ensures; before_is = before })
    ∙ ap (λ (z : List Code). z ++ filter_map (code_of kept s) s.lines) c.in_ok-code.ensures) in
    same_function _ (function_of kept s) c.in_ok-name.ensures (λ i. c.args.part.now.file) (λ i. c.args.part.now.number) code
