-- The parts of the argument, and the call.
use Rattle.std.proofs.Common.{ap, ◌∙◌, []}
use Rattle.jack_meaning.specs.Text as meaning
use Rattle.jack_core.specs.Heights.{height}
use Rattle.jack_core.specs.Reading.{build_expressions, operand, the_expression}
use Rattle.jack_names.specs.Made.{one}
use Rattle.jack_names.proofs.Pushing.{called_one, means}
use Rattle.jack_names.proofs.meant.call_one.Goals as goal

pub invariant_of-result : goal.invariant_of-result
invariant_of-result c = record { one = ap (height 0) c.in_ok-kept.ensures ∙ (called_one c.args.argument.now c.args.number c.push_part.new.parts.items (rw (c.in_ok-parts.ensures.items, c.as_slice.ensures) at c.in_ok-push_part.ensures)).height_is }

pub returns : goal.returns
returns c =
    ap (λ ps. operand 0 (build_expressions [] ps)) c.in_ok-kept.ensures
    ∙ means (meaning.Call c.args.number (one (the_expression c.args.argument.now))) c.push_part.new.parts.items
    (called_one c.args.argument.now c.args.number c.push_part.new.parts.items (rw (c.in_ok-parts.ensures.items, c.as_slice.ensures) at c.in_ok-push_part.ensures))
