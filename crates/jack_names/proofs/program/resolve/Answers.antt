use Rattle.jack_names.proofs.Telling.{tells, means}
use Rattle.jack_names.proofs.program.resolve.Goals as goal

pub returns-clause-tells : goal.returns-clause-tells
returns-clause-tells c = tells c.args.own.now c.args.os.now c.resolve_numbered.result c.resolve_numbered.ensures.checks

pub returns-clause-meaning : goal.returns-clause-meaning
returns-clause-meaning c = means c.args.own.now c.args.os.now c.resolve_numbered.result c.resolve_numbered.ensures.program
