use Rattle.std.proofs.Common.{◌≡◌, None, take}
use Rattle.jack_names.specs.Inner.Uses.{arguments_uses, operations_uses}
use Rattle.jack_names.specs.Inner.Scopes.{first_fault}
use Rattle.jack_names.specs.Inner.Scoped.{the_scope}
use Rattle.jack_names.proofs.checks.+expressions.Given as goal

abbrev pub invariant-check_arguments-loop-e : goal.invariant-check_arguments-loop-e
invariant-check_arguments-loop-e l = first_fault (the_scope l.scope) (arguments_uses (take l.e-index l.arguments)) ≡ None

abbrev pub invariant-check_operations-loop-operation : goal.invariant-check_operations-loop-operation
invariant-check_operations-loop-operation l = first_fault (the_scope l.scope) (operations_uses (take l.operation-index l.operations)) ≡ None
