use Rattle.std.proofs.Common.{take}
use Rattle.jack_core.specs.Texts.{the_statement, the_block}
use Rattle.jack_meaning.specs.Linked.{text_calls}
use Rattle.jack_compiler.specs.Inner.Searched.{Visits}
use Rattle.jack_compiler.proofs.Adding.{weight_of, weight_in}
use Rattle.jack_compiler.proofs.reached.+calling.Given as goal

abbrev pub invariant-mark_statements-loop-s : goal.invariant-mark_statements-loop-s
invariant-mark_statements-loop-s l = Visits (text_calls (the_block (take l.s-index l.ss))) l.initial.search l.search

abbrev pub decreases-mark_statement : goal.decreases-mark_statement
decreases-mark_statement l = weight_of (the_statement l.s.now)

abbrev pub decreases-mark_statements : goal.decreases-mark_statements
decreases-mark_statements l = weight_in (the_block l.ss.now)
