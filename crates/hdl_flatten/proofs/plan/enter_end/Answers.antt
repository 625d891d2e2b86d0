use Rattle.std.proofs.Common.{Option, sym, subst, map}
use Rattle.std.specs.Prelude.{OnOk}
use Rattle.hdl_tree.specs.declared.ends.End.{End}
use Rattle.hdl_flatten.specs.Inner.Wired.{bit_of, wires_of, FindsMore}
use Rattle.hdl_flatten.specs.Inner.Plans.{end_gates}
use Rattle.hdl_flatten.proofs.plan.enter_end.Goals as goal

pub returns-in-Some : goal.returns-in-Some
returns-in-Some c = subst (λ (o : Option End). OnOk c.enter_outputs.result (FindsMore (wires_of c.args.wires.now) (wires_of c.enter_outputs.new.wires) (end_gates o (map bit_of c.args.outputs.now)))) (sym c.in-Some.is) c.enter_outputs.ensures
