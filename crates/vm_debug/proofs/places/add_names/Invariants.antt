-- The names so far have been added.
use Rattle.std.proofs.Common.{◌≡◌, ◌++◌, drop, map}
use Rattle.jack_tree.specs.declared.tree.Name.{Name}
use Rattle.vm_debug.proofs.places.add_names.Given as goal

abbrev pub invariant-loop-name : goal.invariant-loop-name
invariant-loop-name l = l.names ++ map (λ (n : Name). n.text) (drop l.name-index l.declared.more.items) ≡ l.initial.names ++ map (λ (n : Name). n.text) l.declared.more.items
