use Rattle.std.proofs.Common.{[], ap, sym, ◌∙◌}
use Rattle.name_table.specs.Names.{find_value}
use Rattle.name_table.specs.Tables.{table_of}
use Rattle.jack_names.specs.Symbols.{parameter_entries, local_entries, variable_entries, objects}
use Rattle.jack_names.specs.Inner.Named.{with_all, the_symbols}
use Rattle.jack_names.proofs.Naming.{found_filled, with_all-append}
use Rattle.jack_names.proofs.variables.variables_of.Goals as goal

pub returns : goal.returns
returns c = λ x.
    let sy = the_symbols c.args.names.now in
    let s = c.args.s.now in
    let ps = parameter_entries sy (objects s.form) s.parameters.items in
    let ls = local_entries sy 0 s.locals.items in
    ap (find_value x)
    (c.in_ok-enter_locals.ensures ∙ ap (λ l. with_all (table_of c.enter_parameters.new.table) (local_entries sy 0 l)) c.deref-2.ensures.value
    ∙ ap (λ t. with_all t ls) (c.in_ok-enter_parameters.ensures ∙ ap (λ t. with_all t (parameter_entries sy c.objects.result c.deref.result.now)) c.new-table.ensures ∙ ap (λ n. with_all [] (parameter_entries sy n c.deref.result.now)) c.objects.ensures ∙ ap (λ p. with_all [] (parameter_entries sy (objects s.form) p)) c.deref.ensures.value)
    ∙ sym (with_all-append [] ps ls)) ∙ found_filled x (variable_entries sy s)
