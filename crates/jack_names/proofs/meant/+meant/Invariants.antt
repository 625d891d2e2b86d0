-- The arguments so far are added, and the last expression is continued by the operations so far.
use Rattle.std.proofs.Common.{map, take}
use Rattle.jack_names.specs.Inner.Meant.{exp_meant, grouped_operations}
use Rattle.jack_names.specs.Inner.Scoped.{the_scope}
use Rattle.jack_names.specs.Inner.Pushed.{AddsAll, Turns}
use Rattle.jack_names.proofs.meant.+meant.Given as goal

abbrev pub invariant-push_arguments-loop-e : goal.invariant-push_arguments-loop-e
invariant-push_arguments-loop-e l = AddsAll (map (exp_meant (the_scope l.scope)) (take l.e-index l.arguments)) l.fn.parts.items l.parts.items

abbrev pub invariant-push_operations-loop-operation : goal.invariant-push_operations-loop-operation
invariant-push_operations-loop-operation l = Turns (λ e. grouped_operations (the_scope l.scope) e (take l.operation-index l.operations)) l.fn.parts.items l.parts.items
