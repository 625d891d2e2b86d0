-- Nothing is after the block.
use Rattle.std.proofs.Common.{[], ap, ◌∙◌}
use Rattle.jack_meaning.specs.Text.{joined_text}
use Rattle.jack_core.specs.Texts.{the_block}
use Rattle.jack_core.specs.Reading.{build_expressions}
use Rattle.jack_machine.specs.Parts.{parts_of}
use Rattle.jack_machine.specs.Texts.{the_after}
use Rattle.jack_machine.proofs.Following.{joined_end}
use Rattle.jack_machine.proofs.texts.text_of_block.Goals as goal

pub returns : goal.returns
returns c =
    c.text_with.ensures ∙ c.take_next-first.ensures (build_expressions [] (parts_of c.take_next-first.result)) ∙ c.push_block.ensures
    ∙ ap (λ l. joined_text (the_block c.args.block.now) (the_after l)) (c.reserve.ensures.items ∙ c.new-after.ensures.items) ∙ joined_end (the_block c.args.block.now)
