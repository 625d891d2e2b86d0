use Rattle.std.proofs.Common.{◌+◌, ◌*◌, length}
use Rattle.vm_link.specs.Inner.Marks.{unmarked_count}
use Rattle.jack_core.specs.Texts.{the_program}
use Rattle.jack_compiler.specs.Inner.Searched.{Looks}
use Rattle.jack_compiler.proofs.reached.reached.Given as goal

abbrev pub invariant-waiting : goal.invariant-waiting
invariant-waiting l = Looks (the_program l.core) l.search.marks.items l.search.waiting.items

abbrev pub decreases-waiting : goal.decreases-waiting
decreases-waiting l = 2 * unmarked_count l.search.marks.items + length l.search.waiting.items
