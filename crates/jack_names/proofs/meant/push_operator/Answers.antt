-- The operator's part has two operands.
use Rattle.std.proofs.lemmas.Result.{on_ok_weaker}
use Rattle.jack_names.specs.Inner.Meant.{binary_meant}
use Rattle.jack_names.specs.Inner.Scoped.{the_scope}
use Rattle.jack_names.proofs.Pushing.{joins}
use Rattle.jack_names.proofs.meant.push_operator.Goals as goal

pub returns : goal.returns
returns c =
    on_ok_weaker c.push_part.result
    (joins c.operator_part.result (binary_meant (the_scope c.args.scope.now) c.args.operator) c.args.parts.now.items c.push_part.new.parts.items c.operator_part.ensures.takes c.operator_part.ensures.made)
    c.push_part.ensures
