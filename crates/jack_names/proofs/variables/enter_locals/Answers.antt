use Rattle.std.proofs.Common.{◌≡◌, ◌+◌, ◌∷◌, length, ap, sym, ◌∙◌, arith}
use Rattle.name_table.specs.Tables.{table_of}
use Rattle.jack_names.specs.Inner.Twice.{names_of}
use Rattle.jack_names.specs.Symbols.{type_class, line_entries, local_entries, locals_of}
use Rattle.jack_names.specs.Inner.Named.{with_all, the_symbols}
use Rattle.jack_names.specs.declared.scope.Slot.TheVariants as slot
use Rattle.jack_names.proofs.Naming.{with_all-append}
use Rattle.jack_names.proofs.variables.enter_locals.Goals as goal

pub loop-line-preserved : goal.loop-line-preserved
loop-line-preserved c =
    let sy = the_symbols c.args.names.now in
    let k = c.loop-line.k in
    let line = c.in-Some.line.now in
    let others = c.in-Some.others.now in
    let split : c.loop-line.rest.now ≡ line ∷ others = c.in-Some.ensures.cases.0 in
    let more = local_entries sy (k + length (names_of line.names)) others in
    let locals : locals_of c.loop-line.rest.now ≡ length (names_of line.names) + locals_of others = ap locals_of split in
    record {
      whole = ap (λ n. with_all (table_of c.enter_names.new.table) (local_entries sy (k + n) others)) c.count-k.ensures
          ∙ ap (λ t. with_all t more) (c.in_ok-enter_names.ensures ∙ ap (λ v. with_all (table_of c.loop-line.table) (line_entries slot.Local v k (names_of line.names))) c.type_class-class.ensures)
          ∙ sym (with_all-append (table_of c.loop-line.table) (line_entries slot.Local (type_class sy line.kind) k (names_of line.names)) more)
          ∙ ap (λ r. with_all (table_of c.loop-line.table) (local_entries sy k r)) (sym split) ∙ c.loop-line.invariant.whole;
      counted = omega (arith, locals, c.count-k.ensures, c.loop-line.invariant.counted);
    }
