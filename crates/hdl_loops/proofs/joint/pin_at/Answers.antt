use Rattle.std.proofs.Common.{sym, ◌∙◌}
use Rattle.hdl_plans.proofs.Sound.{port_is}
use Rattle.hdl_loops.proofs.Widths.{no_pin_way, no_pin_wide}
use Rattle.hdl_loops.proofs.joint.pin_at.Goals as goal

pub returns-in-Some-clause-way : goal.returns-in-Some-clause-way
returns-in-Some-clause-way c = λ inner has. (port_is inner c.args.name.now c.in-Some.pin (sym (has c.args.name.now) ∙ sym c.in-Some.ensures)).way

pub returns-in-Some-clause-wide : goal.returns-in-Some-clause-wide
returns-in-Some-clause-wide c = λ inner has. (port_is inner c.args.name.now c.in-Some.pin (sym (has c.args.name.now) ∙ sym c.in-Some.ensures)).wide

pub returns-in-None-clause-way : goal.returns-in-None-clause-way
returns-in-None-clause-way c = λ inner has. no_pin_way inner c.args.name.now (sym (has c.args.name.now) ∙ sym c.in-None.ensures)

pub returns-in-None-clause-wide : goal.returns-in-None-clause-wide
returns-in-None-clause-wide c = λ inner has. no_pin_wide inner c.args.name.now (sym (has c.args.name.now) ∙ sym c.in-None.ensures)
