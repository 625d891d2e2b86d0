use Rattle.jack_parser.specs.declared.counts.Counted.TheVariants as counted
use Rattle.jack_parser.proofs.printing.put_locals.Goals as goal

pub returns : goal.returns
returns g c = c.put_declaration.ensures counted.Local
