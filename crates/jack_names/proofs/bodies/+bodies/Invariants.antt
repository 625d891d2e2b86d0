use Rattle.std.proofs.Common.{◌≡◌, ◌+◌, ◌*◌, map, take}
use Rattle.jack_core.specs.Texts.{the_statement}
use Rattle.jack_names.specs.Sizes.{size, sizes, else_size}
use Rattle.jack_names.specs.Inner.Meant.{statements_meant}
use Rattle.jack_names.specs.Inner.Scoped.{the_scope}
use Rattle.jack_names.proofs.bodies.+bodies.Given as goal

abbrev pub invariant-statements_meant-loop-s : goal.invariant-statements_meant-loop-s
invariant-statements_meant-loop-s l = record {
  texts : map the_statement l.texts.items ≡ statements_meant (the_scope l.scope) l.first (take l.s-index l.ss);
  number : l.number ≡ l.first + sizes (take l.s-index l.ss);
}

-- an `if`, its `else`, its statements, and the first of them
abbrev pub decreases-if_meant : goal.decreases-if_meant
decreases-if_meant l = 4 * (sizes l.holds.now + else_size l.fails.now) + 3

abbrev pub decreases-while_meant : goal.decreases-while_meant
decreases-while_meant l = 4 * sizes l.body.now + 3

abbrev pub decreases-else_meant : goal.decreases-else_meant
decreases-else_meant l = 4 * else_size l.fails.now + 2

abbrev pub decreases-statements_meant : goal.decreases-statements_meant
decreases-statements_meant l = 4 * sizes l.ss.now + 1

abbrev pub decreases-statement_meant : goal.decreases-statement_meant
decreases-statement_meant l = 4 * size l.s.now
