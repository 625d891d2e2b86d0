-- The next statement comes first.
use Rattle.std.proofs.Common.{ap, ◌∙◌}
use Rattle.jack_machine.specs.Texts.{begun_text, the_after, the_expressions}
use Rattle.jack_machine.proofs.texts.advance.Goals as goal

pub returns : goal.returns
returns c =
    let front = c.begin.new.front in
    let after = the_after c.take_next-first.new.after.items in
    ap (λ n. begun_text front.first n (the_expressions front) after) c.begin.ensures.done
    ∙ ap (λ f. begun_text f 0 (the_expressions front) after) c.begin.ensures.is_first
    ∙ c.take_next-first.ensures (the_expressions front)
