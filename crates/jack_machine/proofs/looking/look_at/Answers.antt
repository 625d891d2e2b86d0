-- What the part makes of the last values: a load, and a call.
use Rattle.std.proofs.Common.{refl, ap, ◌∙◌, subst}
use Rattle.word16.specs.Words.{word_add}
use Rattle.jack_core.specs.declared.tree.Part.TheVariants as part
use Rattle.jack_machine.specs.Looks.{the_view, passed_values, Loads}
use Rattle.jack_machine.proofs.Sights.{sees_load, sees_call, no_call}
use Rattle.jack_machine.proofs.looking.look_at.Goals as goal

pub returns-in-Field-clause-sees : goal.returns-in-Field-clause-sees
returns-in-Field-clause-sees c key =
    let l = subst (λ a. Loads (the_view c.args.variables.now c.args.memory.now key) a c.load.result) c.add.ensures (c.load.ensures (the_view c.args.variables.now c.args.memory.now key) refl) in
    rw c.in-Field.is (l.move (passed_values (part.Field c.in-Field.k) c.args.values.now))

pub returns-in-Load-clause-sees : goal.returns-in-Load-clause-sees
returns-in-Load-clause-sees c key =
    let two = rw c.in-Load.is at c.requires in
    let a = c.add-in-Load.ensures ∙ ap (λ x. word_add x c.from_end-index.result) c.from_end-base.ensures ∙ ap (word_add _) c.from_end-index.ensures in
    rw c.in-Load.is (sees_load (the_view c.args.variables.now c.args.memory.now key) c.args.values.now _ c.load-in-Load.result two a (c.load-in-Load.ensures (the_view c.args.variables.now c.args.memory.now key) refl))

pub returns-in-Call-clause-sees : goal.returns-in-Call-clause-sees
returns-in-Call-clause-sees c key = rw c.in-Call.is (sees_call (the_view c.args.variables.now c.args.memory.now key) c.in-Call.number c.in-Call.arguments c.args.values.now)

pub returns-in-Field-clause-call : goal.returns-in-Field-clause-call
returns-in-Field-clause-call c = no_call c.args.part c.load.result (c.load.ensures (the_view c.args.variables.now c.args.memory.now 0) refl).moves

pub returns-in-Load-clause-call : goal.returns-in-Load-clause-call
returns-in-Load-clause-call c = no_call c.args.part c.load-in-Load.result (c.load-in-Load.ensures (the_view c.args.variables.now c.args.memory.now 0) refl).moves
