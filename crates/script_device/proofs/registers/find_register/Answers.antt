use Rattle.std.proofs.Common.{sym, ap, ◌∙◌}
use Rattle.std.specs.Prelude.{codes}
use Rattle.std.specs.Str.{bytes_eq}
use Rattle.script_device.proofs.Found.{other_text}
use Rattle.script_device.proofs.MachineNames.{register_found}
use Rattle.script_device.proofs.registers.find_register.Goals as goal

pub returns : goal.returns
returns c =
    let text = c.args.text.now in
    register_found text
    (other_text text (codes "A") (ap (bytes_eq text) (sym c.as_slice.ensures) ∙ (sym c.eq.ensures ∙ c.if-eq.false)))
    (other_text text (codes "D") (ap (bytes_eq text) (sym c.as_slice-2.ensures) ∙ (sym c.eq-2.ensures ∙ c.if-eq-2.false)))
    (other_text text (codes "PC") (ap (bytes_eq text) (sym c.as_slice-3.ensures) ∙ (sym c.eq-3.ensures ∙ c.if-eq-3.false)))
    c.find_word.result c.find_word.ensures
