use Rattle.name_table.specs.Names.{find_value, first_of}
use Rattle.name_table.specs.Tables.{table_of}
use Rattle.jack_names.specs.Inner.Filed.{the_file}
use Rattle.jack_names.specs.Inner.Named.{the_symbols}
use Rattle.jack_names.proofs.classes.scope_in.Goals as goal

pub returns : goal.returns
returns c = λ i. record {
  variable = λ x. first_of (c.requires x i) (find_value x (table_of c.args.class.members.now));
  class = (the_symbols c.args.class.names.now).class;
  subroutine = (the_symbols c.args.class.names.now).subroutine;
  form = c.args.s.now.form;
  own = c.args.class.own;
  source = the_file c.args.class.file;
}
