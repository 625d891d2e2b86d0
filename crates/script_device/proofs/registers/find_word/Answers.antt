use Rattle.std.proofs.Common.{◌≡◌, ◌<◌, length, sym, ap, ◌∙◌, arith}
use Rattle.std.specs.Prelude.{codes}
use Rattle.std.specs.Str.{bytes_eq}
use Rattle.script_device.proofs.Found.{is_none, is_some, number_has, other_text, same_text}
use Rattle.script_device.proofs.MachineNames.{word_found, word_of}
use Rattle.script_device.proofs.registers.find_word.Goals as goal
use Rattle.script_device.proofs.registers.find_word.Goals.{else-eq-via-then-eq+else-not-is_empty, else-eq-via-else-eq}

pub returns-in_default : goal.returns-in_default
returns-in_default c = λ k n. absurd (c.in_default.ensures (codes "RAM") n.written (number_has c.args.text.now (codes "RAM") k n))

pub returns-then-not-is_empty : goal.returns-then-not-is_empty
returns-then-not-is_empty c =
    let name = c.in-Some.name.now in
    let inside = c.in-Some.inside.now in
    let same : name ≡ codes "RAM" = same_text name (codes "RAM") (ap (bytes_eq name) (sym c.as_slice.ensures) ∙ (sym c.eq.ensures ∙ c.if-eq.true)) in
    let some : 0 < length inside = is_some (length inside) (sym c.is_empty.ensures ∙ c.if-not-is_empty.true) in
    word_found c.args.text.now name inside c.capped_number.result c.in-Some.ensures same some c.capped_number.ensures c.register_at.result c.register_at.ensures

pub returns-else-eq : goal.returns-else-eq
returns-else-eq c = λ k n.
    let name = c.in-Some.name.now in
    let inside = c.in-Some.inside.now in
    let w = word_of c.args.text.now name inside k c.in-Some.ensures n in
    elim c.else-eq.branch [
      | else-eq-via-then-eq+else-not-is_empty v ↦
          let none : length inside ≡ 0 = is_none (length inside) (sym v.is_empty.ensures ∙ v.if-not-is_empty.false) in
          let some : 0 < length inside = w.some in
          omega (arith, none, some)
      | else-eq-via-else-eq v ↦ absurd (other_text name (codes "RAM") (ap (bytes_eq name) (sym c.as_slice.ensures) ∙ (sym c.eq.ensures ∙ v.if-eq.false)) w.ram)
    ]
