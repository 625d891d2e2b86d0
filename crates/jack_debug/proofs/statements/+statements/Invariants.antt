use Rattle.std.proofs.Common.{◌≡◌, ◌+◌, ◌*◌, ◌++◌, drop, length}
use Rattle.jack_tree.specs.Seen.{the_statement, the_statements}
use Rattle.jack_debug.specs.Statements.{block_places, statement_places}
use Rattle.jack_debug.proofs.statements.+statements.Given as goal

-- The places of the statements so far have been added.
abbrev pub invariant-add_statements-loop-s : goal.invariant-add_statements-loop-s
invariant-add_statements-loop-s l = l.places ++ block_places (the_statements (drop l.s-index l.ss)) ≡ l.initial.places ++ block_places (the_statements l.ss)

abbrev pub decreases-add_statement : goal.decreases-add_statement
decreases-add_statement l = 2 * length (statement_places (the_statement l.s.now))

abbrev pub decreases-add_statements : goal.decreases-add_statements
decreases-add_statements l = 2 * length (block_places (the_statements l.ss.now)) + 1
