-- What the scopes of the code stand for.
use Rattle.std.specs.Prelude.{ℕ, List, Option, Some, None, slice_get}
use Rattle.name_table.specs.Names.{find_value, first_of}
use Rattle.name_table.specs.Tables.{table_of}
use Rattle.jack_names.specs.Inner.Filed.{the_file}
use Rattle.jack_names.specs.Inner.Scopes.{Scope as AScope}
use Rattle.name_table.specs.declared.Table.{Table}
use Rattle.jack_names.specs.declared.scope.Signature.{Signature}
use Rattle.jack_names.specs.declared.scope.Scope.{Scope}

abbrev pub found_in : Option (Table Signature) → List ℕ → Option Signature
found_in None f = None
found_in (Some t) f = find_value f (table_of t)

abbrev pub the_scope : Scope → AScope
the_scope s = record {
  variable = λ x. first_of (find_value x (table_of s.locals.now)) (find_value x (table_of s.members.now));
  class = λ x. find_value x (table_of s.names.now.classes);
  subroutine = λ k f. found_in (slice_get s.names.now.subroutines.items k) f;
  form = s.form;
  own = s.own;
  source = the_file s.file;
}
