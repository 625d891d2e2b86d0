use Rattle.std.proofs.Common.{sym, subst}
use Rattle.hdl_loops.specs.Inner.Knowing.{KnowNothing}
use Rattle.hdl_loops.proofs.Noting.{none_more}
use Rattle.hdl_loops.proofs.find.note_none.Goals as goal

pub returns-clause-none : goal.returns-clause-none
returns-clause-none c = subst KnowNothing (sym c.in_ok-push.ensures.items) (none_more c.args.known.now.items c.requires.none)
