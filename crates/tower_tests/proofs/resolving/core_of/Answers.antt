use Rattle.std.proofs.Common.{◌≡◌, ℕ, List, arith, sym, subst}
use Rattle.jack_meaning.specs.Text.{Program}
use Rattle.jack_core.specs.Texts.{the_program, names_of}
use Rattle.jack_names.specs.Inner.Whole.{program_meant, all_names_meant}
use Rattle.jack_compiler.specs.Resolved.{IsResolved, IsResolvedCore}
use Rattle.jack_compiler.proofs.Calls.{calls_are_there}
use Rattle.tower.proofs.NamedProgram.{well_named_resolved}
use Rattle.tower.proofs.Spelled.{spelled_are_read, read_within, few_subroutines}
use Rattle.tower_tests.proofs.resolving.core_of.Goals as goal

pub resolve-requires-clause-subroutines : goal.resolve-requires-clause-subroutines
resolve-requires-clause-subroutines c =
    omega (arith, few_subroutines c.args.own.now (spelled_are_read c.read_law.ensures c.args.own.now c.requires.own), few_subroutines c.args.os.now (spelled_are_read c.read_law.ensures c.args.os.now c.requires.os))

pub resolve-requires-clause-own : goal.resolve-requires-clause-own
resolve-requires-clause-own c = read_within c.args.own.now (spelled_are_read c.read_law.ensures c.args.own.now c.requires.own)

pub resolve-requires-clause-os : goal.resolve-requires-clause-os
resolve-requires-clause-os c = read_within c.args.os.now (spelled_are_read c.read_law.ensures c.args.os.now c.requires.os)

pub returns-in-Ok : goal.returns-in-Ok
returns-in-Ok c =
    let own = c.args.own.now in
    let os = c.args.os.now in
    let core = c.in-Ok.core in
    let own_read = spelled_are_read c.read_law.ensures own c.requires.own in
    let os_read = spelled_are_read c.read_law.ensures os c.requires.os in
    let meant = well_named_resolved own os c.in-Ok.ensures.checks (read_within own own_read) (read_within os os_read) own_read os_read in
    let P : Program → Type 0 = λ p. IsResolved p (all_names_meant own os) in
    let N : List (List ℕ) → Type 0 = λ ns. IsResolved (the_program core) ns in
    let resolved : IsResolvedCore core = subst N (sym c.in-Ok.ensures.names) (subst P (sym c.in-Ok.ensures.program) meant) in
    calls_are_there core resolved
