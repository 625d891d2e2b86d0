use Rattle.vm_parser.proofs.reading.read.Goals as goal

pub returns-clause-found : goal.returns-clause-found
returns-clause-found c = rw (c.in_ok-push.ensures.ok, c.new-program.ensures) c.in_ok-file.ensures.found
