-- The numbers so far have been added.
use Rattle.std.proofs.Common.{◌≡◌, ◌++◌, drop}
use Rattle.vm_debug.specs.Places.{linked_numbers}
use Rattle.vm_debug.proofs.places.numbers_of.Given as goal

abbrev pub invariant-loop-function : goal.invariant-loop-function
invariant-loop-function l = l.numbers ++ linked_numbers (drop l.function-index l.functions) ≡ linked_numbers l.functions
