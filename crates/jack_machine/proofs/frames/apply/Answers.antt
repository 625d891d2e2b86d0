-- A store inside the memory, and outside.
use Rattle.std.proofs.Common.{refl, ap, ◌∙◌}
use Rattle.jack_meaning.specs.Text.{Next}
use Rattle.jack_machine.specs.Texts.{the_text, the_after, the_expressions, written_statement}
use Rattle.jack_machine.specs.Effects.{outcome_on}
use Rattle.jack_machine.specs.Frames.{the_state, the_frame}
use Rattle.jack_machine.proofs.Tops.{stored_over}
use Rattle.jack_machine.proofs.frames.apply.Goals as goal

pub returns-then-not-store-clause-done : goal.returns-then-not-store-clause-done
returns-then-not-store-clause-done c =
    let f = c.args.top.now in
    let m = c.args.memory.now in
    let out = rw c.if-not-store.true at c.store.ensures in (
      λ below.
          ap (outcome_on (the_state f m below) (the_frame f) below (Next (written_statement c.args.first.now (the_expressions f.text.front)) (the_after f.text.after.items))) c.in-Stores.is
          ∙ out.0 (the_state f m below) (the_frame f) below (the_after f.text.after.items),
      (refl, out.1),
    )

pub returns-else-not-store-clause-done : goal.returns-else-not-store-clause-done
returns-else-not-store-clause-done c below =
    let f = c.args.top.now in
    let m = c.args.memory.now in
    let rest = the_after f.text.after.items in
    let in_memory = rw c.if-not-store.false at c.store.ensures in
    ap (outcome_on (the_state f m below) (the_frame f) below (Next (written_statement c.args.first.now (the_expressions f.text.front)) rest)) c.in-Stores.is
    ∙ stored_over f m c.store.new.memory below c.in-Stores.address c.in-Stores.w rest (the_text c.advance-in-Stores.new.text) in_memory c.advance-in-Stores.ensures
