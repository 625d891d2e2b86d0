-- The addresses so far have been added.
use Rattle.std.proofs.Common.{◌≡◌, ◌++◌, drop}
use Rattle.vm_debug.proofs.places.commits_of.Given as goal

abbrev pub invariant-loop-address : goal.invariant-loop-address
invariant-loop-address l = l.copy ++ drop l.address-index l.commits ≡ l.commits
