use Rattle.std.proofs.Common.{◌≤◌, ◌<◌, length, ap, take, ◌∙◌, arith}
use Rattle.std.proofs.lemmas.List.{take_all}
use Rattle.jack_meaning.specs.Linked.{calls}
use Rattle.jack_core.specs.Reading.{the_expression}
use Rattle.jack_core.specs.declared.tree.Part.TheVariants as part
use Rattle.jack_compiler.specs.Inner.Searched.{parts_calls}
use Rattle.jack_compiler.proofs.Searching.{visits_as, spelled_calls, parts_next}
use Rattle.jack_compiler.proofs.reached.mark_expression.Goals as goal

pub loop-part-preserved : goal.loop-part-preserved
loop-part-preserved c =
    let inside : c.loop-part.part-index < length c.as_slice-part-items.result.now = omega arith in
    parts_next c.args.e.now.parts c.as_slice-part-items.result.now c.loop-part.part-index (part.Literal 0) c.args.search.now c.loop-part.search c.mark_part.new.search
    c.as_slice-part-items.ensures inside c.loop-part.invariant c.in_ok-mark_part.ensures

pub returns : goal.returns
returns c =
    let over : length c.args.e.now.parts ≤ c.loop-part.part-index = omega (arith, ap length c.as_slice-part-items.ensures) in
    visits_as (parts_calls (take c.loop-part.part-index c.args.e.now.parts)) (calls (the_expression c.args.e.now)) c.args.search.now c.loop-part.search
    (ap parts_calls (take_all c.loop-part.part-index c.args.e.now.parts over) ∙ spelled_calls c.args.e.now) c.loop-part.invariant
