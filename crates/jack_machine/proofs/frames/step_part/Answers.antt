-- The part that is next moves, and the text with it.
use Rattle.std.proofs.Common.{refl, true, false, sym, ap, ◌∙◌, subst}
use Rattle.jack_meaning.specs.Meaning.{Acts}
use Rattle.jack_machine.specs.Frames.{state_over, with_text, IsNext}
use Rattle.jack_core.specs.declared.tree.Part.TheVariants as part
use Rattle.jack_machine.specs.Looks.{the_view, Sees}
use Rattle.jack_machine.specs.Texts.{the_after}
use Rattle.jack_machine.specs.declared.looking.Sight.{Sight}
use Rattle.jack_machine.proofs.Tops.{top_moves, put_text}
use Rattle.jack_machine.proofs.frames.step_part.Goals as goal

pub returns-in_ok-put-in-Puts-clause-done : goal.returns-in_ok-put-in-Puts-clause-done
returns-in_ok-put-in-Puts-clause-done c subs below =
    let f = c.args.top.now in
    let m = c.args.memory.now in
    let sees = rw c.in-Puts.is at (c.look.ensures.sees c.args.key) in
    top_moves subs below c.args.key f m c.args.part (Sight.Puts c.in-Puts.w) c.requires sees
    ∙ ap (λ t. Acts false (state_over (with_text f t) m below)) (sym (put_text c.args.part c.in-Puts.w f.text.front c.put.new.front c.in_ok-put-in-Puts.ensures.done (the_after f.text.after.items)))

pub returns-in_ok-put-in-Hears-clause-done : goal.returns-in_ok-put-in-Hears-clause-done
returns-in_ok-put-in-Hears-clause-done c subs below =
    let f = c.args.top.now in
    let m = c.args.memory.now in
    let sees = rw c.in-Hears.is at (c.look.ensures.sees c.args.key) in
    top_moves subs below c.args.key f m c.args.part Sight.Hears c.requires sees
    ∙ ap (λ t. Acts true (state_over (with_text f t) m below)) (sym (put_text c.args.part c.args.key f.text.front c.put-in-Hears.new.front c.in_ok-put-in-Hears.ensures.done (the_after f.text.after.items)))

pub returns-in-Calls-clause-done : goal.returns-in-Calls-clause-done
returns-in-Calls-clause-done c subs below =
    let f = c.args.top.now in
    let m = c.args.memory.now in
    let is = (rw c.in-Calls.is at c.look.ensures.call) ∙ ap (λ n. part.Call n c.in-Calls.g) (sym c.operands.ensures) in
    let next = subst (λ p. IsNext p f) is c.requires in
    let sees = subst (λ p. Sees (the_view f.variables m c.args.key) p f.text.front.values.items (Sight.Calls c.in-Calls.g)) is (rw c.in-Calls.is at (c.look.ensures.sees c.args.key)) in
    (top_moves subs below c.args.key f m (part.Call c.operands.result c.in-Calls.g) (Sight.Calls c.in-Calls.g) next sees, next, (refl, refl))

pub returns-in-Strays-clause-done : goal.returns-in-Strays-clause-done
returns-in-Strays-clause-done c subs below =
    let sees = rw c.in-Strays.is at (c.look.ensures.sees c.args.key) in
    (top_moves subs below c.args.key c.args.top.now c.args.memory.now c.args.part (Sight.Strays c.in-Strays.a) c.requires sees, (refl, refl))
