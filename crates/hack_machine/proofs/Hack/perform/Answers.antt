use Rattle.hack_machine.proofs.Memory.{computed, shifted}
use Rattle.hack_machine.proofs.Hack.perform.Goals as goal

pub returns-in-Compute-clause-step : goal.returns-in-Compute-clause-step
returns-in-Compute-clause-step c =
    let fetched = rw (← c.self.view_is) at c.in-Compute.ensures in
    let operand = rw c.deref.ensures.value at c.operand.ensures in
    let after = rw (← c.self.view_is) at c.put_result.ensures.state in
    rw (← c.self.view_is) (computed _ _ _ _ _ _ _ _ _ _ fetched operand c.alu-out.ensures.out after)

pub returns-in-Shift-clause-step : goal.returns-in-Shift-clause-step
returns-in-Shift-clause-step c =
    let fetched = rw (← c.self.view_is) at c.in-Shift.ensures in
    let operand = rw c.deref-in-Shift.ensures.value at c.shift_operand-held.ensures in
    let after = rw (← c.self.view_is) at c.put_result-in-Shift.ensures.state in
    rw (← c.self.view_is) (shifted _ _ _ _ _ _ _ _ _ _ _ fetched operand c.shifted.ensures after)
