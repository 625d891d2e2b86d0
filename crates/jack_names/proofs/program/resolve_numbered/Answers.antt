use Rattle.std.proofs.Common.{◌++◌, subst, sym}
use Rattle.name_table.specs.Names.{first_of}
use Rattle.jack_names.specs.Symbols.{symbols_of}
use Rattle.jack_names.specs.Resolved.{Resolves}
use Rattle.jack_names.specs.Inner.Whole.{main_fault, all_uses_fault}
use Rattle.jack_names.proofs.program.resolve_numbered.Goals as goal

pub returns-clause-checks : goal.returns-clause-checks
returns-clause-checks c =
    let own = c.args.own.now in
    let os = c.args.os.now in
    let sy = symbols_of (own ++ os) in
    subst (λ declared. Resolves (first_of declared (first_of (main_fault sy) (all_uses_fault sy own os))) c.resolve_named.result) (sym c.in_ok-check_declared.ensures) c.resolve_named.ensures.checks
