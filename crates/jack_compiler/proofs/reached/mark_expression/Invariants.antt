use Rattle.std.proofs.Common.{take}
use Rattle.jack_compiler.specs.Inner.Searched.{parts_calls, Visits}
use Rattle.jack_compiler.proofs.reached.mark_expression.Given as goal

abbrev pub invariant-loop-part : goal.invariant-loop-part
invariant-loop-part l = Visits (parts_calls (take l.part-index l.e.parts)) l.initial.search l.search
