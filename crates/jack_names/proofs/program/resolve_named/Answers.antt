use Rattle.std.proofs.Common.{◌≡◌, ◌++◌, ◌∷◌, Ok, Err, map, codes, ap, sym, ◌∙◌}
use Rattle.std.proofs.lemmas.Result.{err_from_is_err_and}
use Rattle.jack_core.specs.Texts.{the_subroutine}
use Rattle.jack_names.specs.Symbols.{symbols_of}
use Rattle.jack_names.specs.Inner.Meant.{number_by}
use Rattle.jack_names.specs.Inner.Whole.{found_subroutine, main_fault, all_uses_fault, all_subroutines_meant, start_subroutine}
use Rattle.jack_names.specs.Inner.Named.{the_symbols}
use Rattle.jack_names.proofs.Checking.{as_fault, in_first, in_second}
use Rattle.jack_names.proofs.program.resolve_named.Goals as goal

pub returns-in_err-check_main-clause-checks : goal.returns-in_err-check_main-clause-checks
returns-in_err-check_main-clause-checks c =
    let own = c.args.own.now in
    let os = c.args.os.now in
    let sy = symbols_of (own ++ os) in
    let e = c.in_err-check_main.field-0.0 in
    let p = err_from_is_err_and c.from_residual.result c.from_residual.ensures.1 in
    rw (p.1, p.2) (in_first (main_fault sy) (all_uses_fault sy own os) e (as_fault (main_fault (the_symbols c.args.names.now)) (main_fault sy) (Err e) (ap main_fault c.requires.names) c.in_err-check_main.ensures))

pub returns-in_err-resolve_all-clause-checks : goal.returns-in_err-resolve_all-clause-checks
returns-in_err-resolve_all-clause-checks c =
    let own = c.args.own.now in
    let os = c.args.os.now in
    let sy = symbols_of (own ++ os) in
    let e = c.in_err-resolve_all.field-0.0 in
    let p = err_from_is_err_and c.from_residual-in_err-resolve_all.result c.from_residual-in_err-resolve_all.ensures.1 in
    rw (p.1, p.2) (in_second (main_fault sy) (all_uses_fault sy own os) (Err e) (sym (ap main_fault c.requires.names) ∙ c.in_ok-check_main.ensures)
    (as_fault (all_uses_fault (the_symbols c.args.names.now) own os) (all_uses_fault sy own os) (Err e) (ap (λ s. all_uses_fault s own os) c.requires.names) c.in_err-resolve_all.ensures.checks))

pub returns-clause-checks : goal.returns-clause-checks
returns-clause-checks c =
    let own = c.args.own.now in
    let os = c.args.os.now in
    let sy = symbols_of (own ++ os) in
    in_second (main_fault sy) (all_uses_fault sy own os) (Ok tt) (sym (ap main_fault c.requires.names) ∙ c.in_ok-check_main.ensures)
    (sym (ap (λ s. all_uses_fault s own os) c.requires.names) ∙ c.in_ok-resolve_all.ensures.checks)

pub returns-clause-program : goal.returns-clause-program
returns-clause-program c =
    let own = c.args.own.now in
    let os = c.args.os.now in
    let sy = the_symbols c.args.names.now in
    let subroutines : map the_subroutine c.resolve_all.new.subroutines.items ≡ start_subroutine ∷ all_subroutines_meant (symbols_of (own ++ os)) own os =
    c.in_ok-resolve_all.ensures.program ∙ ap (λ l. l ++ all_subroutines_meant sy own os) c.in_ok-subroutines.ensures.program ∙ ap (λ s. start_subroutine ∷ all_subroutines_meant s own os) c.requires.names in
    let init : c.number_by.result ≡ number_by (found_subroutine (symbols_of (own ++ os)) (codes "Sys") (codes "init")) =
    c.number_by.ensures ∙ ap number_by (c.find.ensures ∙ ap (λ x. found_subroutine sy x c.as_slice-2.result.now) c.as_slice.ensures ∙ ap (found_subroutine sy (codes "Sys")) c.as_slice-2.ensures ∙ ap (λ s. found_subroutine s (codes "Sys") (codes "init")) c.requires.names) in
    λ i. record { classes = c.in_ok-all_classes.ensures.means i; subroutines = subroutines i; init = init i }
