use Rattle.jack_names.specs.Inner.Named.{the_symbols}
use Rattle.jack_names.specs.Inner.Twice.{source_of}
use Rattle.jack_names.proofs.classes.class_scope.Goals as goal

pub returns : goal.returns
returns c = λ i. record {
  symbols = the_symbols c.args.names.now;
  member = λ x. c.requires x i;
  own = c.args.own;
  source = source_of c.args.shipped c.args.class.now;
}
