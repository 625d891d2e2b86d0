use Rattle.std.proofs.Common.{refl, sym, subst}
use Rattle.script_parser.specs.declared.tree.Step.TheVariants as steps
use Rattle.script_parser.specs.declared.tree.Act.TheVariants as acts
use Rattle.outer_world.specs.Held.{pending, sink_of}
use Rattle.tst_runner.specs.Inner.Columns.{AreColumns}
use Rattle.tst_runner.proofs.Performed.{Performs-line}
use Rattle.tst_runner.proofs.acts.put_values.Goals as goal

pub values_line-requires : goal.values_line-requires
values_line-requires g c =
    let s = c.requires.1.0 in
    let h = c.requires.1.1 in
    (s.device, h.device, (s.items, subst (AreColumns s.device s.items) (sym c.deref.ensures.value) h.columns))

pub returns-clause-does : goal.returns-clause-does
returns-clause-does g c setting there w e f s h stays =
    let are = subst (AreColumns s.device s.items) (sym c.deref.ensures.value) h.columns in
    Performs-line setting there ⊥ w (g.O.Sink.state (sink_of c.put_line.new.out)).written e f (pending c.put_line.new.out) s s (acts.Step steps.Output) c.in_ok-line.line.items c.put_line.new.state c.put_line.result
    (refl, c.in_ok-line.ensures s.device s.items h.device are) refl refl refl (c.put_line.ensures.puts setting w e f s h stays)
