use denote.Hole.Carrier.{hidden}
use Rattle.jack_os.specs.declared.sketch.StatementSketch.TheBlock.{hidden-the_row-StatementSketch-0}
use Rattle.jack_os.specs.Routines as routines
use Rattle.jack_os.proofs.Seen.{if_seen}
use Rattle.jack_os.proofs.routines.de_alloc.Goals as goal

pub returns : goal.returns
unfolding hidden-the_row-StatementSketch-0 hidden
returns c = if_seen c.subroutine.result routines.deAlloc c.subroutine.ensures
