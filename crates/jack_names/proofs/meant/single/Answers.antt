-- One part alone.
use Rattle.std.proofs.Common.{ap, ◌∙◌, [], ◌∷◌}
use Rattle.jack_core.specs.Heights.{height}
use Rattle.jack_core.specs.Reading.{make_expression, build_expressions, operand}
use Rattle.jack_names.proofs.Pushing.{means, one_part}
use Rattle.jack_names.proofs.meant.single.Goals as goal

pub invariant_of-result : goal.invariant_of-result
invariant_of-result c = record { one = ap (height 0) c.one.ensures ∙ (one_part c.args.part c.requires).height_is }

pub returns : goal.returns
returns c = ap (λ ps. operand 0 (build_expressions [] ps)) c.one.ensures ∙ means (make_expression c.args.part []) (c.args.part ∷ []) (one_part c.args.part c.requires)
