use Rattle.std.proofs.Common.{◌≡◌, ℕ, List, [], false, true, Err, sym, ap, ◌∙◌}
use Rattle.std.proofs.lemmas.Result.{err_from_is_err_and}
use Rattle.name_table.specs.Names.{names_in}
use Rattle.jack_names.specs.Tables.{is_among}
use Rattle.name_table.specs.Tables.{table_of}
use Rattle.jack_names.specs.Inner.Twice.{declarations_fault}
use Rattle.jack_names.specs.Inner.Whole.{class_names}
use Rattle.jack_names.specs.Inner.Named.{with_all, marks}
use Rattle.jack_names.proofs.Checking.{as_fault, in_first, in_second}
use Rattle.jack_names.proofs.Declaring.{declared_same, marks_are}
use Rattle.jack_names.proofs.program.check_declared.Goals as goal

pub returns-in_err-check_declarations : goal.returns-in_err-check_declarations
returns-in_err-check_declarations c =
    let own = c.args.own.now in
    let os = c.args.os.now in
    let p = err_from_is_err_and c.from_residual-in_err-check_declarations.result c.from_residual-in_err-check_declarations.ensures.1 in
    let seen = names_in (table_of c.mark_classes.new.seen) in
    let there : (x : List ℕ) → is_among x seen ≡ is_among x (class_names os) = λ x.
    ap (λ es. is_among x (names_in es)) (c.in_ok-mark_classes.ensures ∙ ap (λ es. with_all es (marks os)) c.new-seen.ensures) ∙ marks_are os x in
    rw (p.1, p.2) (in_first (declarations_fault false (class_names os) own) (declarations_fault true [] os) c.in_err-check_declarations.field-0.0
    (as_fault (declarations_fault false seen own) (declarations_fault false (class_names os) own) (Err c.in_err-check_declarations.field-0.0) (declared_same false seen (class_names os) own there) c.in_err-check_declarations.ensures))

pub returns : goal.returns
returns c =
    let own = c.args.own.now in
    let os = c.args.os.now in
    let seen = names_in (table_of c.mark_classes.new.seen) in
    let there : (x : List ℕ) → is_among x seen ≡ is_among x (class_names os) = λ x.
    ap (λ es. is_among x (names_in es)) (c.in_ok-mark_classes.ensures ∙ ap (λ es. with_all es (marks os)) c.new-seen.ensures) ∙ marks_are os x in
    in_second (declarations_fault false (class_names os) own) (declarations_fault true [] os) c.check_declarations-2.result
    (sym (declared_same false seen (class_names os) own there) ∙ c.in_ok-check_declarations.ensures)
    (as_fault (declarations_fault true (names_in (table_of c.new.result)) os) (declarations_fault true [] os) c.check_declarations-2.result (ap (λ es. declarations_fault true (names_in es) os) c.new.ensures) c.check_declarations-2.ensures)
