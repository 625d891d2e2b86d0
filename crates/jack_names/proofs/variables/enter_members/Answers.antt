use Rattle.std.proofs.Common.{◌≡◌, ◌+◌, ◌∷◌, ap, sym, ◌∙◌, arith}
use Rattle.name_table.specs.Tables.{table_of}
use Rattle.jack_names.specs.Symbols.{member_line, member_entries, fields_in, statics_in, fields_of, statics_of}
use Rattle.jack_names.specs.Inner.Named.{with_all, the_symbols}
use Rattle.jack_names.proofs.Naming.{with_all-append}
use Rattle.jack_names.proofs.variables.enter_members.Goals as goal

pub loop-line-preserved : goal.loop-line-preserved
loop-line-preserved c =
    let sy = the_symbols c.args.names.now in
    let f = c.loop-line.fields in
    let s = c.loop-line.statics in
    let line = c.in-Some.line.now in
    let others = c.in-Some.others.now in
    let split : c.loop-line.rest.now ≡ line ∷ others = c.in-Some.ensures.cases.0 in
    let more = member_entries sy (f + fields_in line.scope line) (s + statics_in line.scope line) others in
    let fields : fields_of c.loop-line.rest.now ≡ fields_in line.scope line + fields_of others = ap fields_of split in
    let statics : statics_of c.loop-line.rest.now ≡ statics_in line.scope line + statics_of others = ap statics_of split in
    record {
      whole = ap (λ n. with_all (table_of c.enter_line.new.table) (member_entries sy (f + n) (s + c.statics_in-statics.result) others)) c.fields_in-fields.ensures
          ∙ ap (λ n. with_all (table_of c.enter_line.new.table) (member_entries sy (f + fields_in line.scope line) (s + n) others)) c.statics_in-statics.ensures
          ∙ ap (λ t. with_all t more) c.in_ok-enter_line.ensures
          ∙ sym (with_all-append (table_of c.loop-line.table) (member_line sy f s line line.scope) more)
          ∙ ap (λ r. with_all (table_of c.loop-line.table) (member_entries sy f s r)) (sym split) ∙ c.loop-line.invariant.whole;
      fields = omega (arith, fields, c.fields_in-fields.ensures, c.loop-line.invariant.fields);
      statics = omega (arith, statics, c.statics_in-statics.ensures, c.loop-line.invariant.statics);
    }
