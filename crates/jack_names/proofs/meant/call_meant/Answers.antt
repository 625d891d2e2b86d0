-- The parts are added to none.
use Rattle.std.proofs.Common.{ap, ◌∙◌, []}
use Rattle.jack_core.specs.Heights.{height}
use Rattle.jack_core.specs.Reading.{build_expressions, operand}
use Rattle.jack_names.specs.Inner.Meant.{call_meant}
use Rattle.jack_names.specs.Inner.Scoped.{the_scope}
use Rattle.jack_names.proofs.Pushing.{alone, means}
use Rattle.jack_names.proofs.meant.call_meant.Goals as goal

pub invariant_of-result : goal.invariant_of-result
invariant_of-result c = record { one = ap (height 0) c.in_ok-kept.ensures ∙ (alone (call_meant (the_scope c.args.scope.now) c.args.call.now) c.in_ok-parts.parts.items c.push_call.new.parts.items c.in_ok-parts.ensures.items c.in_ok-push_call.ensures).height_is }

pub returns : goal.returns
returns c =
    let e = call_meant (the_scope c.args.scope.now) c.args.call.now in
    ap (λ ps. operand 0 (build_expressions [] ps)) c.in_ok-kept.ensures
    ∙ means e c.push_call.new.parts.items (alone e c.in_ok-parts.parts.items c.push_call.new.parts.items c.in_ok-parts.ensures.items c.in_ok-push_call.ensures)
