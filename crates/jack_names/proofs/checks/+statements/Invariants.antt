use Rattle.std.proofs.Common.{◌≡◌, None, take}
use Rattle.jack_names.specs.Inner.Uses.{statements_uses}
use Rattle.jack_names.specs.Inner.Scopes.{first_fault}
use Rattle.jack_names.specs.Inner.Scoped.{the_scope}
use Rattle.jack_names.proofs.checks.+statements.Given as goal

abbrev pub invariant-check_statements-loop-s : goal.invariant-check_statements-loop-s
invariant-check_statements-loop-s l = first_fault (the_scope l.scope) (statements_uses (take l.s-index l.ss)) ≡ None
