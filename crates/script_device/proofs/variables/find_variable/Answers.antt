use Rattle.std.proofs.Common.{sym, ap, subst, ◌∙◌}
use Rattle.std.specs.Prelude.{codes}
use Rattle.std.specs.Str.{bytes_eq}
use Rattle.script_device.proofs.Found.{WordFound, other_text, means_nothing}
use Rattle.script_device.proofs.variables.find_variable.Goals as goal

pub returns-in-None : goal.returns-in-None
returns-in-None c = λ net calls same. means_nothing net c.args.directory.now calls c.args.text.now (other_text c.args.text.now (codes "time") (ap (bytes_eq c.args.text.now) (sym c.as_slice.ensures) ∙ (sym c.eq.ensures ∙ c.if-eq.false))) c.in_default.ensures c.in_default-part_out.ensures (subst (WordFound net c.args.directory.now c.args.text.now) c.in-None.is (c.part_word.ensures net same))
