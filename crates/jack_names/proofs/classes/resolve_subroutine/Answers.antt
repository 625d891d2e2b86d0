use Rattle.std.proofs.Common.{ap, arith}
use Rattle.jack_names.specs.Inner.Uses.{subroutine_uses}
use Rattle.jack_names.specs.Inner.Scopes.{first_fault}
use Rattle.jack_names.specs.Inner.Scoped.{the_scope}
use Rattle.jack_names.specs.Symbols.{scope_in}
use Rattle.jack_names.specs.Inner.Named.{the_class_scope}
use Rattle.jack_names.proofs.Checking.{as_fault}
use Rattle.std.proofs.lemmas.Grind.{common_steps}
use Rattle.jack_names.proofs.classes.resolve_subroutine.Goals as goal

pub returns-clause-checks : goal.returns-clause-checks
returns-clause-checks c =
    let s = c.args.s.now in
    as_fault (first_fault (the_scope c.scope_in-scope.result) (subroutine_uses s)) (first_fault (scope_in (the_class_scope c.args.class) s) (subroutine_uses s)) c.push_resolved.result
    (ap (λ sc. first_fault sc (subroutine_uses s)) c.scope_in-scope.ensures) c.push_resolved.ensures.checks

pub returns-clause-program : goal.returns-clause-program
returns-clause-program c = grind (arith, common_steps)

pub returns-clause-names : goal.returns-clause-names
returns-clause-names c = grind (arith, common_steps)
