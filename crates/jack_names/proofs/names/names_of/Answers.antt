use Rattle.std.proofs.Common.{[], ◌++◌, length, map, ap, ◌∙◌}
use Rattle.name_table.specs.Tables.{table_of}
use Rattle.jack_names.specs.Symbols.{class_numbers, all_signatures}
use Rattle.jack_names.specs.Inner.Named.{with_all}
use Rattle.jack_names.proofs.Naming.{symbols_are}
use Rattle.jack_names.proofs.names.names_of.Goals as goal

pub returns : goal.returns
returns c =
    let own = c.args.own.now in
    let os = c.args.os.now in
    symbols_are (record { classes = c.enter_classes-2.new.table; subroutines = c.push_signatures-2.new.tables }) own os c.in_ok-next.next c.in_ok-next.ensures.next
    (c.in_ok-enter_classes-2.ensures ∙ ap (λ t. with_all t (class_numbers (length own) os)) (c.in_ok-enter_classes.ensures ∙ ap (λ t. with_all t (class_numbers 0 own)) c.new-classes.ensures))
    (c.in_ok-push_signatures.ensures.tables ∙ ap (λ l. l ++ map (with_all []) (all_signatures c.in_ok-next.next os)) (c.in_ok-next.ensures.tables ∙ ap (λ l. map table_of l ++ map (with_all []) (all_signatures 1 own)) c.new-subroutines.ensures.items))
