use Rattle.std.proofs.Common.{length, Option, refl, sym, ap, subst}
use Rattle.hdl_tree.specs.declared.ends.End.{End}
use Rattle.hdl_flatten.specs.Inner.Fed.{nodes_in}
use Rattle.hdl_flatten.specs.Inner.Unfinished.{IsBegunBy}
use Rattle.hdl_flatten.proofs.Putting.{on_both}
use Rattle.hdl_flatten.proofs.flat.enter.Goals as goal

pub put_end-requires-clause-fed : goal.put_end-requires-clause-fed
put_end-requires-clause-fed c = c.requires.fed c.in-Some.end c.in-Some.is

pub returns-in-Some : goal.returns-in-Some
returns-in-Some c =
    let plan = c.args.plan.now in
    let old = c.args.flat.now in
    let new = c.put_end.new.flat in
    let items = c.args.stack.now.items in
    on_both c.put_end.result c.put_end.ensures.nodes c.put_end.ensures.blocks (λ f g.
    subst (λ (o : Option End). IsBegunBy o plan (nodes_in c.args.inputs) old new items items) (sym c.in-Some.is) (
      record {
        nodes = f;
        blocks = g;
        parts = c.put_end.ensures.parts;
      },
      refl,
    ))

pub returns-in-None : goal.returns-in-None
returns-in-None c =
    let plan = c.args.plan.now in
    let old = c.args.flat.now in
    on_both c.push.result c.push.ensures c.push.ensures (λ e _.
    subst (λ (o : Option End). IsBegunBy o plan (nodes_in c.args.inputs) old old c.args.stack.now.items c.push.new.stack.items) (sym c.in-None.is)
    (refl, record { chip = _; base_is = ap length c.as_slice.ensures.value; inputs_are = refl; rest_is = c.as_slice-in-None.ensures.value; longer = e }))
