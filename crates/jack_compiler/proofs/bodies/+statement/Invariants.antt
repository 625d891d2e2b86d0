use Rattle.std.proofs.Common.{drop, suc, ◌+◌}
use Rattle.jack_core.specs.Texts.{the_statement, the_block}
use Rattle.jack_compiler.specs.Inner.Surroundings.{the_around}
use Rattle.jack_compiler.proofs.Adding.{GoesOn, weight_of, weight_in}
use Rattle.jack_compiler.proofs.bodies.+statement.Given as goal

abbrev pub invariant-add_statements-loop-index : goal.invariant-add_statements-loop-index
invariant-add_statements-loop-index l = GoesOn (the_around l.around) l.next (the_block l.ss) l.initial.body l.body (the_block (drop l.index l.ss))

abbrev pub decreases-add_if : goal.decreases-add_if
decreases-add_if l = suc (weight_in (the_block l.branches.now.holds.now) + weight_in (the_block l.branches.now.fails.now))

abbrev pub decreases-add_while : goal.decreases-add_while
decreases-add_while l = suc (weight_in (the_block l.turn.now))

abbrev pub decreases-add_statement : goal.decreases-add_statement
decreases-add_statement l = weight_of (the_statement l.s.now)

abbrev pub decreases-add_statements : goal.decreases-add_statements
decreases-add_statements l = weight_in (the_block l.ss.now)
