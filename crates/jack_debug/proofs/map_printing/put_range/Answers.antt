use Rattle.jack_debug.proofs.map_printing.put_range.Goals as goal

pub returns-clause-passes : goal.returns-clause-passes
returns-clause-passes g c = rw (c.name-name.ensures, c.file-file.ensures) at c.put_point.ensures.passes
